-- Blocks of a relation on numbers, each named by its leader, the least in it.
use Rattle.std.specs.Prelude.{ℕ, zero, suc, ◌+◌, Bool, cond, T, nat_eq}

-- a relation as a test, that is an equivalence
pub record Equivalence (r : ℕ → ℕ → Bool) : Type 0 where
  pub itself : (s : ℕ) → T (r s s)
  pub turned : (s t : ℕ) → T (r s t) → T (r t s)
  pub over : (s t u : ℕ) → T (r s t) → T (r t u) → T (r s u)

-- the least number below n that passes, or n
unfoldable pub least : (ℕ → Bool) → ℕ → ℕ
least f zero = zero
least f (suc n) = let r = least f n in cond (f r) r (suc r)

-- the least number related to s, or s
abbrev pub leader : (ℕ → ℕ → Bool) → ℕ → ℕ
leader r s = least (λ t. r t s) s

-- how many numbers below n pass
unfoldable pub count : (ℕ → Bool) → ℕ → ℕ
count f zero = zero
count f (suc n) = cond (f n) 1 0 + count f n

-- how many blocks the numbers below n make: how many are their own leader
abbrev pub blocks : (ℕ → ℕ → Bool) → ℕ → ℕ
blocks r n = count (λ s. nat_eq (leader r s) s) n
