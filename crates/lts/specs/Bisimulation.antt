-- When two states do the same: whatever step the one takes, the other can answer, and again so.
use Rattle.std.specs.Prelude.{ℕ, Bool, false, ◌&&◌, ◌||◌, T, List, [], ◌∷◌, ◌==◌}
use Rattle.lts.specs.Machine.{Machine, Step}

-- a relation that keeps up both ways: each step of either side is answered by one with the same label, into the relation again
pub record Bisimulation (m : Machine) (r : ℕ → ℕ → Type 0) : Type 0 where
  pub forth : (s t a u : ℕ) → r s t → Step m s a u → (v : ℕ) × Step m t a v × r u v
  pub back : (s t a v : ℕ) → r s t → Step m t a v → (u : ℕ) × Step m s a u × r u v

-- a table of pairs as a flat list: s and t stand in it as a pair, in this order
abbrev pub in_table : List ℕ → ℕ → ℕ → Bool
in_table [] s t = false
in_table (x ∷ []) s t = false
in_table (x ∷ y ∷ ps) s t = (x == s && y == t) || in_table ps s t

-- two states that stand in a finite table of pairs that keeps up
pub record Bisimilar (m : Machine) (s t : ℕ) : Type 0 where
  pub table : List ℕ
  pub has : T (in_table table s t)
  pub keeps : Bisimulation m (λ x y. T (in_table table x y))
