-- The least number that passes, and how many pass.
use Rattle.std.proofs.Common.{◌≡◌, ℕ, zero, suc, ◌+◌, ◌<◌, ◌≤◌, Bool, true, false, cond, not, ◌||◌, T, eqb, ◌⊎◌, sym, refl, subst, inl, inr, arith, eqb→eq}
use lib.Dec.{eqb_refl}
use Rattle.theory.specs.Blocks.{least, count}
use Rattle.theory.proofs.Bools.{T-or_not, not_both}

-- m below suc n is below n or n
pub below_suc : (m n : ℕ) → m < suc n → (m < n) ⊎ (m ≡ n)
below_suc m n h = elim (T-or_not (eqb m n)) [
  | inl g ↦ inr (eqb→eq m n g)
  | inr g ↦ inl (let ne : m ≡ n → ⊥ = λ e. not_both (eqb m n) (subst (λ y. T (eqb m y)) e (eqb_refl m)) g in omega arith)
]

least_le_step : (b : Bool) (r n : ℕ) → r ≤ n → cond b r (suc r) ≤ suc n
least_le_step true r n h = omega arith
least_le_step false r n h = omega arith

-- the least that passes is within the bound
pub least_le : (f : ℕ → Bool) (n : ℕ) → least f n ≤ n
unfolding least
least_le f zero = omega arith
least_le f (suc n) = least_le_step (f (least f n)) (least f n) n (least_le f n)

least_not_step : (f : ℕ → Bool) (r : ℕ) (b : Bool) → (T (not b) → T (not (f r))) → ((t : ℕ) → t < r → T (not (f t))) → (t : ℕ) → t < cond b r (suc r) → T (not (f t))
least_not_step f r true g h t p = h t p
least_not_step f r false g h t p = elim (below_suc t r p) [
  | inl q ↦ h t q
  | inr q ↦ subst (λ x. T (not (f x))) (sym q) (g tt)
]

-- nothing below it passes
pub least_not : (f : ℕ → Bool) (n t : ℕ) → t < least f n → T (not (f t))
unfolding least
least_not f zero t h = absurd (omega arith)
least_not f (suc n) t h = least_not_step f (least f n) (f (least f n)) (λ p. p) (least_not f n) t h

least_found_step : (f : ℕ → Bool) (r n : ℕ) (b : Bool) → (T b → T (f r)) → (T (not b) → r < n → ⊥) → cond b r (suc r) < suc n → T (f (cond b r (suc r)))
least_found_step f r n true g h p = g tt
least_found_step f r n false g h p = absurd (h tt (omega arith))

-- below the bound it passes
pub least_found : (f : ℕ → Bool) (n : ℕ) → least f n < n → T (f (least f n))
unfolding least
least_found f zero h = absurd (omega arith)
least_found f (suc n) h = least_found_step f (least f n) n (f (least f n)) (λ p. p) (λ p q. not_both (f (least f n)) (least_found f n q) p) h

cond_le : (a b : Bool) → (T a → T b) → cond {A = ℕ} a 1 0 ≤ cond b 1 0
cond_le true true h = omega arith
cond_le true false h = absurd (h tt)
cond_le false true h = omega arith
cond_le false false h = omega arith

cond_lt : (a b : Bool) → T (not a) → T b → cond {A = ℕ} a 1 0 < cond b 1 0
cond_lt true b h g = absurd h
cond_lt false true h g = omega arith
cond_lt false false h g = absurd g

cond_max : (a : Bool) → cond {A = ℕ} a 1 0 ≤ 1
cond_max true = omega arith
cond_max false = omega arith

-- no more pass than there are
pub count_le : (f : ℕ → Bool) (n : ℕ) → count f n ≤ n
unfolding count
count_le f zero = omega arith
count_le f (suc n) = omega (arith, cond_max (f n), count_le f n)

-- more pass a weaker test
pub count_more : (f g : ℕ → Bool) (n : ℕ) → ((s : ℕ) → s < n → T (f s) → T (g s)) → count f n ≤ count g n
unfolding count
count_more f g zero h = omega arith
count_more f g (suc n) h = omega (arith, cond_le (f n) (g n) (h n (omega arith)), count_more f g n (λ s p. h s (omega arith)))

-- and strictly more, if one passes it that did not pass the other
pub count_strict : (f g : ℕ → Bool) (n s : ℕ) → ((s : ℕ) → s < n → T (f s) → T (g s)) → s < n → T (not (f s)) → T (g s) → count f n < count g n
unfolding count
count_strict f g zero s h p q r = absurd (omega arith)
count_strict f g (suc n) s h p q r = elim (below_suc s n p) [
  | inl w ↦ omega (arith, cond_le (f n) (g n) (h n (omega arith)), count_strict f g n s (λ x y. h x (omega arith)) w q r)
  | inr w ↦ omega (arith, cond_lt (f n) (g n) (subst (λ x. T (not (f x))) w q) (subst (λ x. T (g x)) w r), count_more f g n (λ x y. h x (omega arith)))
]

-- at least one, if one passes
pub count_pos : (f : ℕ → Bool) (n s : ℕ) → s < n → T (f s) → 0 < count f n
count_pos f n s h g = omega (arith, count_strict (λ _. false) f n s (λ x _ p. absurd p) h tt g)

cond_or : (a b : Bool) → cond {A = ℕ} (a || b) 1 0 ≤ cond a 1 0 + cond b 1 0
cond_or true b = omega arith
cond_or false true = omega arith
cond_or false false = omega arith

-- what passes either of two tests is no more than what passes the one and what passes the other
pub count_or : (f g : ℕ → Bool) (n : ℕ) → count (λ s. f s || g s) n ≤ count f n + count g n
unfolding count
count_or f g zero = omega arith
count_or f g (suc n) = omega (arith, cond_or (f n) (g n), count_or f g n)

cond_no : (a : Bool) → T (not a) → cond {A = ℕ} a 1 0 ≡ 0
cond_no true h = absurd h
cond_no false h = refl

-- none, if none passes
pub count_none : (f : ℕ → Bool) (n : ℕ) → ((s : ℕ) → s < n → T (not (f s))) → count f n ≡ 0
unfolding count
count_none f zero h = refl
count_none f (suc n) h = omega (arith, cond_no (f n) (h n (omega arith)), count_none f n (λ s p. h s (omega arith)))

-- at most one, if any two that pass are equal
pub count_one : (f : ℕ → Bool) (n : ℕ) → ((s t : ℕ) → s < n → t < n → T (f s) → T (f t) → s ≡ t) → count f n ≤ 1
unfolding count
count_one f zero h = omega arith
count_one f (suc n) h = elim (T-or_not (f n)) [
  | inl g ↦ omega (arith, cond_max (f n), count_none f n (λ s p. elim (T-or_not (f s)) [ inl q ↦ absurd (let e = h s n (omega arith) (omega arith) q g in omega arith) | inr q ↦ q ]))
  | inr g ↦ omega (arith, cond_no (f n) g, count_one f n (λ s t p q. h s t (omega arith) (omega arith)))
]
