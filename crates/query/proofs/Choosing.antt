-- An option and its value, among the arguments.
use Rattle.std.proofs.Common.{◌≡◌, ℕ, Bool, true, false, cond, ◌||◌, List, ◌∷◌, Some, None, codes, sym, refl, ap, ◌∙◌}
use Rattle.std.specs.Str.{bytes_eq}
use Rattle.std.proofs.lemmas.Bool.{cond-true, cond-false}
use Rattle.query.specs.declared.options.Room.{Room}
use Rattle.query.specs.declared.options.Room.TheVariants.{Lines, Work}
use Rattle.query.specs.declared.plan.Options.{Options}
use Rattle.query.specs.Chosen.{no_number, room_of, given, is_room, with_room, going, chosen}
use Rattle.query.specs.Reading.{number_of}

-- what stands for an option that gives room
room_is : (o : Options) (n : ℕ) (b w : Bool) (r : Room) → Some r ≡ cond b (Some Lines) (cond w (Some Work) None) → ((b || w) ≡ true) × (cond b (record { lines = n; work = o.work }) (record { lines = o.lines; work = Some n }) ≡ given o r n)
room_is o n true w Lines h = (refl, refl)
room_is o n true w Work h = cc
room_is o n false true Lines h = cc
room_is o n false true Work h = (refl, refl)
room_is o n false false r h = cc

pub goes_on : (o : Options) (a v : List ℕ) (ts : List (List ℕ)) (r : Room) (n : ℕ) → bytes_eq a (codes "--help") ≡ false → Some r ≡ room_of a → Some n ≡ number_of v → chosen (given o r n) ts ≡ chosen o (a ∷ v ∷ ts)
goes_on o a v ts r n h e t =
    let room = room_is o n (bytes_eq a (codes "--lines")) (bytes_eq a (codes "--work")) r e in
    sym (cond-false (bytes_eq a (codes "--help")) _ _ h ∙ cond-true (is_room a) _ _ room.0 ∙ ap (λ x. going x (no_number a v) (λ k. chosen (with_room o a k) ts)) (sym t) ∙ ap (λ p. chosen p ts) room.1)
