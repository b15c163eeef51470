-- The test of a question, transition by transition.
use Rattle.std.proofs.Common.{◌≡◌, ℕ, ◌/◌, ◌&&◌, List, [], ◌∷◌, length, refl, ap, arith}
use Rattle.std.specs.List.{list_all}
use Rattle.lts.specs.declared.Transition.{Transition}
use Rattle.lts.specs.Decoding.{transitions_of}
use Rattle.lts.specs.Question.{fits, within}

-- all transitions that fit are within
pub all_fit : (n : ℕ) (ts : List Transition) → list_all (fits n) ts ≡ within n ts
all_fit n [] = refl
all_fit n (t ∷ ts) = ap (λ b. fits n t && b) (all_fit n ts)

-- three words hold one transition
pub length_transitions : (ws : List ℕ) → length (transitions_of ws) ≡ length ws / 3
length_transitions [] = omega arith
length_transitions (s ∷ []) = omega arith
length_transitions (s ∷ a ∷ []) = omega arith
length_transitions (s ∷ a ∷ t ∷ ws) = omega (arith, length_transitions ws)
