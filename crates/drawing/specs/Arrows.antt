-- Transitions by the numbers of their names.
use Rattle.std.specs.Prelude.{ℕ, Bool, true, false, ◌&&◌, ◌||◌, List, [], ◌∷◌, ◌==◌, nat_lt}
use Rattle.drawing.specs.declared.plan.Arrow.{Arrow}

-- its numbers are those of names, of which there are n for states and b for buttons
abbrev pub fits : ℕ → ℕ → Arrow → Bool
fits n b a = nat_lt a.source n && (nat_lt a.button b && nat_lt a.target n)

abbrev pub within : ℕ → ℕ → List Arrow → Bool
within n b [] = true
within n b (a ∷ rs) = fits n b a && within n b rs

-- it goes from the state by the button
abbrev pub leads : ℕ → ℕ → Arrow → Bool
leads s b a = a.source == s && a.button == b

-- some transition goes from the state by the button
abbrev pub presses : ℕ → ℕ → List Arrow → Bool
presses s b [] = false
presses s b (a ∷ rs) = leads s b a || presses s b rs
