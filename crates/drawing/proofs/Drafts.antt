-- A step of the draft, as its code sees it.
use Rattle.std.proofs.Common.{◌≡◌, ℕ, List, [], ◌∷◌, ◌++◌, Some, None, Option, Bor, sym, ap, ◌∙◌}
use Rattle.std.specs.Option.{ok_or}
use Rattle.names.specs.Places.{Name, place, noted}
use Rattle.names.proofs.Placed.{place_at, place_noted}
use Rattle.drawing.specs.declared.plan.Arrow.{Arrow}
use Rattle.drawing.specs.declared.Reason.TheVariants.{UnknownStart}
use Rattle.drawing.specs.declared.Trouble.TheVariants.{Refused}
use Rattle.drawing.specs.Code.{Begins}
use Rattle.drawing.specs.Model.{Draft, with_arrow, finish, found, begun}

-- the start has a number, or is unknown where it was said
pub begins : (at : ℕ) (k : Draft) (l : ℕ) (n : Bor (List ℕ)) (o : Option ℕ) → k.start ≡ Some (l, n.now) → o ≡ place k.states n.now → Begins (ok_or o (Refused (record { line = l; reason = UnknownStart n }))) at k
unfolding finish
begins at k l n None e h = ap (begun at k) e ∙ ap (found at k (l, n.now)) (sym h)
begins at k l n (Some i) e h = (ap (begun at k) e ∙ ap (found at k (l, n.now)) (sym h), (place_at k.states n.now i (sym h)).0)

-- a transition whose names were noted one by one
pub linked : (k : Draft) (s b t : Name) (mid ss bs : List Name) (i j l : ℕ) (rs : List Arrow)
    → mid ≡ noted k.states s → place mid s ≡ Some i → ss ≡ noted mid t → place ss t ≡ Some j
    → bs ≡ noted k.buttons b → place bs b ≡ Some l → rs ≡ k.arrows ++ (record { source = i; button = l; target = j } ∷ [])
    → record { title = k.title; start = k.start; states = ss; buttons = bs; arrows = rs } ≡ with_arrow k s b t
linked k s b t mid ss bs i j l rs em ei es ej eb el ea = cc (place_noted mid t s i ei)
