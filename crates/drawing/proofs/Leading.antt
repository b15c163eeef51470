-- Whether a button can be pressed, in the library's word.
use Rattle.std.proofs.Common.{◌≡◌, ℕ, ◌||◌, List, [], ◌∷◌, refl, ap}
use Rattle.std.specs.List.{list_any}
use Rattle.drawing.specs.declared.plan.Arrow.{Arrow}
use Rattle.drawing.specs.Arrows.{leads, presses}

pub presses_any : (s b : ℕ) (rs : List Arrow) → presses s b rs ≡ list_any (leads s b) rs
presses_any s b [] = refl
presses_any s b (a ∷ rs) = ap (λ x. leads s b a || x) (presses_any s b rs)
