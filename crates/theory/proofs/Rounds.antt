-- `together`, opened once: its start, its step both ways, and what parts two states; then that it is an equivalence that shrinks.
use Rattle.std.proofs.Common.{ℕ, zero, suc, Bool, not, T, ◌⊎◌, inl, inr}
use Rattle.lts.specs.Machine.{Machine}
use Rattle.lts.specs.Formula.{any_step}
use Rattle.theory.specs.Together.{matches, together, Matched, Unmatched}
use Rattle.theory.proofs.Bools.{and_in, and_0, and_1, and_not, not_T_of}
use Rattle.theory.proofs.Steps.{any_out, any_in, all_in, all_out, all_not}

-- the test of matching, from what it says, to it, and what fails if it does
pub matches_in : (m : Machine) (r : ℕ → ℕ → Bool) (s t : ℕ) → Matched m r s t → T (matches m r s t)
matches_in m r s t h = all_in m.transitions s (λ a u. any_step m.transitions t a (r u)) (λ a u g. let w = h a u g in any_in t a w.0 (r u) w.1 w.2)

pub matches_out : (m : Machine) (r : ℕ → ℕ → Bool) (s t : ℕ) → T (matches m r s t) → Matched m r s t
matches_out m r s t h a u g = any_out m.transitions t a (r u) (all_out s a u (λ a u. any_step m.transitions t a (r u)) g h)

pub matches_not : (m : Machine) (r : ℕ → ℕ → Bool) (s t : ℕ) → T (not (matches m r s t)) → Unmatched m r s t
matches_not m r s t h =
    let w = all_not m.transitions s (λ a u. any_step m.transitions t a (r u)) h in
    (w.0, w.1, w.2, λ v g. not_T_of (r w.1 v) (any_step m.transitions t w.0 (r w.1)) (λ p. any_in t w.0 v (r w.1) g p) w.3)

-- at first all are together
pub together_start : (m : Machine) (s t : ℕ) → T (together m zero s t)
unfolding together
together_start m s t = tt

-- those that match each other into what is together stay together
pub together_in : (m : Machine) (k s t : ℕ) → Matched m (together m k) s t → Matched m (together m k) t s → T (together m (suc k) s t)
unfolding together
together_in m k s t h g = and_in (matches m (together m k) s t) (matches m (together m k) t s) (matches_in m (together m k) s t h) (matches_in m (together m k) t s g)

-- and only those: the first is matched by the second
pub together_forth : (m : Machine) (k s t : ℕ) → T (together m (suc k) s t) → Matched m (together m k) s t
unfolding together
together_forth m k s t h = matches_out m (together m k) s t (and_0 (matches m (together m k) s t) (matches m (together m k) t s) h)

-- and the second by the first
pub together_back : (m : Machine) (k s t : ℕ) → T (together m (suc k) s t) → Matched m (together m k) t s
unfolding together
together_back m k s t h = matches_out m (together m k) t s (and_1 (matches m (together m k) s t) (matches m (together m k) t s) h)

-- what parts two states: an unmatched transition of the one or of the other
pub together_not : (m : Machine) (k s t : ℕ) → T (not (together m (suc k) s t)) → Unmatched m (together m k) s t ⊎ Unmatched m (together m k) t s
unfolding together
together_not m k s t h = elim (and_not (matches m (together m k) s t) (matches m (together m k) t s) h) [
  | inl g ↦ inl (matches_not m (together m k) s t g)
  | inr g ↦ inr (matches_not m (together m k) t s g)
]

-- an equivalence after each number of rounds
pub together_refl : (m : Machine) (k s : ℕ) → T (together m k s s)
together_refl m zero s = together_start m s s
together_refl m (suc k) s =
    let w : Matched m (together m k) s s = λ a u g. (u, g, together_refl m k u) in
    together_in m k s s w w

pub together_sym : (m : Machine) (k s t : ℕ) → T (together m k s t) → T (together m k t s)
together_sym m zero s t h = together_start m t s
together_sym m (suc k) s t h = together_in m k t s (together_back m k s t h) (together_forth m k s t h)

matched_trans : (m : Machine) (r : ℕ → ℕ → Bool) (s t u : ℕ) → ((x y z : ℕ) → T (r x y) → T (r y z) → T (r x z)) → Matched m r s t → Matched m r t u → Matched m r s u
matched_trans m r s t u over h g a x p =
    let v = h a x p in
    let w = g a v.0 v.1 in
    (w.0, w.1, over x v.0 w.0 v.2 w.2)

pub together_trans : (m : Machine) (k s t u : ℕ) → T (together m k s t) → T (together m k t u) → T (together m k s u)
together_trans m zero s t u h g = together_start m s u
together_trans m (suc k) s t u h g = together_in m k s u
    (matched_trans m (together m k) s t u (together_trans m k) (together_forth m k s t h) (together_forth m k t u g))
    (matched_trans m (together m k) u t s (together_trans m k) (together_back m k t u g) (together_back m k s t h))

matched_more : (m : Machine) (r q : ℕ → ℕ → Bool) (s t : ℕ) → ((x y : ℕ) → T (r x y) → T (q x y)) → Matched m r s t → Matched m q s t
matched_more m r q s t more h a u p = let v = h a u p in (v.0, v.1, more u v.0 v.2)

-- each round leaves no more together
pub together_shrinks : (m : Machine) (k s t : ℕ) → T (together m (suc k) s t) → T (together m k s t)
together_shrinks m zero s t h = together_start m s t
together_shrinks m (suc k) s t h = together_in m k s t
    (matched_more m (together m (suc k)) (together m k) s t (together_shrinks m k) (together_forth m (suc k) s t h))
    (matched_more m (together m (suc k)) (together m k) t s (together_shrinks m k) (together_back m (suc k) s t h))
