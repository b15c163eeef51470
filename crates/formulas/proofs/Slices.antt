-- Words after a write, and places below a counter.
use Rattle.std.proofs.Common.{◌≡◌, ℕ, ◌+◌, ◌<◌, ◌⊎◌, List, length, get_or, set, ap, ◌∙◌, inl, inr, arith}
use Rattle.std.proofs.lemmas.Bool.{cases_eq}
use Rattle.std.proofs.lemmas.List.{get_or-set_same, get_or-set_other}

-- at the place written there is what was written
pub set_here : (xs : List ℕ) (i j v : ℕ) → i < length xs → j ≡ i → get_or (set xs i v) j 0 ≡ v
set_here xs i j v h e = ap (λ k. get_or (set xs i v) k 0) e ∙ get_or-set_same xs i v 0 h

-- elsewhere there is what was
pub set_else : (xs : List ℕ) (i j v : ℕ) → (j ≡ i → ⊥) → get_or (set xs i v) j 0 ≡ get_or xs j 0
set_else xs i j v h = get_or-set_other xs i j v 0 h

-- below t + 1: below t, or t
pub below_or : (z t : ℕ) → z < t + 1 → (z < t) ⊎ (z ≡ t)
below_or z t h = elim (cases_eq z t) [ inl e ↦ inr e | inr e ↦ inl (omega arith) ]
