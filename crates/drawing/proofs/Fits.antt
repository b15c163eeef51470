-- Transitions whose numbers are those of names.
use Rattle.std.proofs.Common.{ℕ, zero, suc, ◌<◌, ◌≤◌, T, List, [], ◌∷◌, ◌++◌, length, get_or, arith}
use Rattle.std.proofs.lemmas.Bool.Decides.{nat_tests}
use Rattle.drawing.specs.declared.plan.Arrow.{Arrow}
use Rattle.drawing.specs.Arrows.{fits, within}

-- what the test of a transition says, and the test from that
pub fits_parts : (n b : ℕ) (a : Arrow) → T (fits n b a) → (a.source < n) × (a.button < b) × (a.target < n)
fits_parts n b a h = grind (arith, nat_tests)

pub fits_from : (n b : ℕ) (a : Arrow) → a.source < n → a.button < b → a.target < n → T (fits n b a)
fits_from n b a s y t = grind (arith, nat_tests)

-- the first transition, and the others
pub within_parts : (n b : ℕ) (a : Arrow) (rs : List Arrow) → T (within n b (a ∷ rs)) → (a.source < n) × (a.button < b) × (a.target < n) × T (within n b rs)
within_parts n b a rs h = grind (arith, nat_tests)

-- the transition at a place
pub within_at : (n b : ℕ) (rs : List Arrow) (d : Arrow) (i : ℕ) → T (within n b rs) → i < length rs → T (fits n b (get_or rs i d))
within_at n b [] d i h l = absurd (omega arith)
within_at n b (a ∷ rs) d zero h l = grind (arith, nat_tests)
within_at n b (a ∷ rs) d (suc i) h l = within_at n b rs d i (within_parts n b a rs h).3 (omega arith)

-- where there are more names
pub within_grown : (n m b d : ℕ) (rs : List Arrow) → n ≤ m → b ≤ d → T (within n b rs) → T (within m d rs)
within_grown n m b d [] f g h = tt
within_grown n m b d (a ∷ rs) f g h = grind (arith, nat_tests, within_grown n m b d rs f g)

-- one transition more
pub within_push : (n b : ℕ) (rs : List Arrow) (a : Arrow) → T (within n b rs) → T (fits n b a) → T (within n b (rs ++ (a ∷ [])))
within_push n b [] a h k = grind (arith, nat_tests)
within_push n b (r ∷ rs) a h k = grind (arith, nat_tests, within_push n b rs a)
