-- The transitions of a drawing, as words and as transitions of both.
use Rattle.std.proofs.Common.{◌≡◌, ℕ, ◌+◌, ◌<◌, ◌≤◌, T, List, [], ◌∷◌, ◌++◌, map, length, get_or, take, sym, refl, ap, ◌∙◌, append_assoc, arith}
use Rattle.std.proofs.lemmas.List.{map_more}
use Rattle.std.proofs.lemmas.Bool.Decides.{nat_tests}
use Rattle.lts.specs.declared.Transition.{Transition}
use Rattle.lts.specs.Question.{transition_words, within as inside}
use Rattle.lts.proofs.Encoding.{transition_words_append}
use Rattle.drawing.specs.declared.plan.Arrow.{Arrow}
use Rattle.drawing.specs.Arrows.{within}
use Rattle.drawing.proofs.Fits.{fits_parts, within_parts, within_at}
use Rattle.names.specs.Places.{Name}
use Rattle.beside.specs.Asks.{no_arrow, relabelled, Movable}
use Rattle.beside.specs.Joined.{label_of, moved}

-- one transition more
pub words_more : (f : Arrow → Transition) (rs : List Arrow) (i : ℕ) (before now after : List ℕ) → i < length rs → now ≡ before ++ transition_words (map f (take i rs)) → after ≡ now ++ transition_words (f (get_or rs i no_arrow) ∷ []) → after ≡ before ++ transition_words (map f (take (i + 1) rs))
words_more f rs i before now after h e g =
    let front = map f (take i rs) in
    let one = f (get_or rs i no_arrow) ∷ [] in
    g ∙ ap (λ ws. ws ++ transition_words one) e ∙ append_assoc before (transition_words front) (transition_words one)
    ∙ ap (λ ws. before ++ ws) (sym (transition_words_append front one) ∙ ap transition_words (sym (map_more f rs i no_arrow h)))

-- relabelled by the labels of its buttons, each transition is moved
pub moved_all : (shift n : ℕ) (all own : List Name) (ls : List ℕ) (rs : List Arrow) → T (within n (length own) rs) → ((j : ℕ) → j < length own → get_or ls j 0 ≡ label_of all (get_or own j [])) → map (relabelled shift ls) rs ≡ map (moved shift all own) rs
moved_all shift n all own ls [] h e = refl
moved_all shift n all own ls (a ∷ rs) h e =
    let parts = within_parts n (length own) a rs h in
    let here = e a.button parts.1 in
    let rest = moved_all shift n all own ls rs parts.3 e in
    cc

-- moved transitions go between the states of both, by labels that there are
pub inside_all : (shift n total : ℕ) (all own : List Name) (rs : List Arrow) → T (within n (length own) rs) → shift + n ≤ total → ((j : ℕ) → j < length own → label_of all (get_or own j []) < 64) → T (inside total (map (moved shift all own) rs))
inside_all shift n total all own [] h le e = tt
inside_all shift n total all own (a ∷ rs) h le e =
    let parts = within_parts n (length own) a rs h in
    let here = e a.button parts.1 in
    let rest = inside_all shift n total all own rs parts.3 le e in
    grind (arith, nat_tests)

pub inside_append : (total : ℕ) (ts us : List Transition) → T (inside total ts) → T (inside total us) → T (inside total (ts ++ us))
inside_append total [] us h k = k
inside_append total (t ∷ ts) us h k = grind (arith, nat_tests, inside_append total ts us)

-- a drawing's transitions can be moved where each of its buttons has a label
pub movable_all : (shift n b : ℕ) (ls : List ℕ) (rs : List Arrow) → T (within n b rs) → shift + n ≤ 4096 → length ls ≡ b → ((j : ℕ) → j < length ls → get_or ls j 0 < 64) → (i : ℕ) → i < length rs → Movable shift ls (get_or rs i no_arrow)
movable_all shift n b ls rs h le e small i l =
    let a = get_or rs i no_arrow in
    let p = fits_parts n b a (within_at n b rs no_arrow i h l) in
    let labelled : a.button < length ls = omega (arith, p.1) in
    record { source = omega (arith, p.0); target = omega (arith, p.2); labelled = labelled; label = omega (arith, small a.button labelled) }
