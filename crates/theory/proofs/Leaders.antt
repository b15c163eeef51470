-- Blocks of an equivalence that is a test: equal leaders, and how blocks grow in number as the relation shrinks.
use Rattle.std.proofs.Common.{◌≡◌, ℕ, ◌<◌, ◌≤◌, Bool, not, T, eqb, sym, subst, inl, inr, arith, eqb→eq}
use lib.Dec.{eqb_refl}
use Rattle.theory.specs.Blocks.{Equivalence, leader, blocks}
use Rattle.theory.proofs.Bools.{T-or_not, not_both, iff_is}
use Rattle.theory.proofs.Counting.{below_suc, least_le, least_not, least_found, count_le, count_strict, count_pos}
use Rattle.std.proofs.lemmas.Bool.{cases_order}

-- a leader is not above what it leads
pub leader_le : (r : ℕ → ℕ → Bool) (s : ℕ) → leader r s ≤ s
leader_le r s = least_le (λ t. r t s) s

-- nothing below the leader is related
pub leader_not : (r : ℕ → ℕ → Bool) (s t : ℕ) → t < leader r s → T (not (r t s))
leader_not r s t h = least_not (λ t. r t s) s t h

-- the leader is related to what it leads
pub leader_in : (r : ℕ → ℕ → Bool) → Equivalence r → (s : ℕ) → T (r (leader r s) s)
leader_in r e s = elim (below_suc (leader r s) s (omega (arith, leader_le r s))) [
  | inl h ↦ least_found (λ t. r t s) s h
  | inr h ↦ subst (λ x. T (r x s)) (sym h) (e.itself s)
]

-- no leader is above one that is related
pub leader_below : (r : ℕ → ℕ → Bool) (s t : ℕ) → T (r t s) → leader r s ≤ t
leader_below r s t h =
    let no : t < leader r s → ⊥ = λ p. not_both (r t s) h (leader_not r s t p) in
    omega arith

-- related numbers have one leader, and the other way round
pub leader_same : (r : ℕ → ℕ → Bool) → Equivalence r → (s t : ℕ) → T (r s t) → leader r s ≡ leader r t
leader_same r e s t h =
    let p = leader_below r s (leader r t) (e.over (leader r t) t s (leader_in r e t) (e.turned s t h)) in
    let q = leader_below r t (leader r s) (e.over (leader r s) s t (leader_in r e s) h) in
    omega arith

pub same_leader : (r : ℕ → ℕ → Bool) → Equivalence r → (s t : ℕ) → leader r s ≡ leader r t → T (r s t)
same_leader r e s t h = e.over s (leader r s) t (e.turned (leader r s) s (leader_in r e s)) (subst (λ x. T (r x t)) (sym h) (leader_in r e t))

-- a leader leads itself
pub leader_leads : (r : ℕ → ℕ → Bool) → Equivalence r → (s : ℕ) → leader r (leader r s) ≡ leader r s
leader_leads r e s = leader_same r e (leader r s) s (leader_in r e s)

abbrev leads : (ℕ → ℕ → Bool) → ℕ → Bool
leads r s = eqb (leader r s) s

is_leads : (r : ℕ → ℕ → Bool) (s : ℕ) → leader r s ≡ s → T (leads r s)
is_leads r s h = subst (λ x. T (eqb x s)) (sym h) (eqb_refl s)

-- one related to a smaller one does not lead
not_leads : (r : ℕ → ℕ → Bool) (s t : ℕ) → t < s → T (r t s) → T (not (leads r s))
not_leads r s t h g = elim (T-or_not (leads r s)) [
  | inl p ↦ absurd (let e = eqb→eq (leader r s) s p in omega (arith, leader_below r s t g))
  | inr p ↦ p
]

-- q is contained in r
abbrev pub Within : (ℕ → ℕ → Bool) → (ℕ → ℕ → Bool) → Type 0
Within q r = (s t : ℕ) → T (q s t) → T (r s t)

-- who leads in a relation leads in a smaller one
pub leads_within : (r q : ℕ → ℕ → Bool) → Equivalence q → Within q r → (s : ℕ) → T (leads r s) → T (leads q s)
leads_within r q e w s h =
    let p = eqb→eq (leader r s) s h in
    is_leads q s (let g = leader_below r s (leader q s) (w (leader q s) s (leader_in q e s)) in omega (arith, leader_le q s))

-- no more blocks than numbers
pub blocks_le : (r : ℕ → ℕ → Bool) (n : ℕ) → blocks r n ≤ n
blocks_le r n = count_le (leads r) n

-- at least one, if there are numbers
pub blocks_pos : (r : ℕ → ℕ → Bool) (n : ℕ) → 0 < n → 0 < blocks r n
blocks_pos r n h = count_pos (leads r) n 0 h (is_leads r 0 (omega (arith, leader_le r 0)))

-- two leaders of a relation that a larger one relates: the later does not lead there
apart_leads : (r q : ℕ → ℕ → Bool) → Equivalence r → Equivalence q → Within q r → (n x y : ℕ) → x < y → y < n
    → T (leads q y) → T (r x y) → blocks r n < blocks q n
apart_leads r q e d w n x y h g p i = count_strict (leads r) (leads q) n y (λ s _ z. leads_within r q d w s z) g (not_leads r y x h i) p

-- a relation that parts two numbers below n has a block more
pub blocks_more : (r q : ℕ → ℕ → Bool) → Equivalence r → Equivalence q → Within q r → (n x y : ℕ) → x < n → y < n
    → T (r x y) → T (not (q x y)) → blocks r n < blocks q n
blocks_more r q e d w n x y hx hy h g =
    let a = leader q x in
    let b = leader q y in
    let la = leader_le q x in
    let lb = leader_le q y in
    let ax = w a x (leader_in q d x) in
    let by = w b y (leader_in q d y) in
    let ab = e.over a x b ax (e.over x y b h (e.turned b y by)) in
    elim (cases_order a b) [
      | inl p ↦ absurd (not_both (q x y) (same_leader q d x y p) g)
      | inr p ↦ elim p [
        | inl z ↦ apart_leads r q e d w n a b z (omega arith) (is_leads q b (leader_leads q d y)) ab
        | inr z ↦ apart_leads r q e d w n b a z (omega arith) (is_leads q a (leader_leads q d x)) (e.turned a b ab)
      ]
    ]

-- a relation that parts s from its leader gives it a later one
pub leader_grows : (r q : ℕ → ℕ → Bool) → Equivalence q → Within q r → (s : ℕ) → T (not (q (leader r s) s)) → leader r s < leader q s
leader_grows r q e w s h =
    let up = leader_below r s (leader q s) (w (leader q s) s (leader_in q e s)) in
    let ne : leader q s ≡ leader r s → ⊥ = λ p. not_both (q (leader r s) s) (subst (λ x. T (q x s)) p (leader_in q e s)) h in
    omega arith

-- the leader is known by what it is
pub leader_is : (r : ℕ → ℕ → Bool) → Equivalence r → (t x : ℕ) → T (r x t) → ((z : ℕ) → z < x → T (not (r z t))) → leader r t ≡ x
leader_is r e t x h g =
    let up = leader_below r t x h in
    let down : leader r t < x → ⊥ = λ p. not_both (r (leader r t) t) (leader_in r e t) (g (leader r t) p) in
    omega arith

-- to have one leader is to be related, as tests
pub leader_test : (r : ℕ → ℕ → Bool) → Equivalence r → (s t : ℕ) → eqb (leader r s) (leader r t) ≡ r s t
leader_test r e s t = iff_is (eqb (leader r s) (leader r t)) (r s t)
    (λ h. same_leader r e s t (eqb→eq (leader r s) (leader r t) h))
    (λ h. subst (λ x. T (eqb (leader r s) x)) (leader_same r e s t h) (eqb_refl (leader r s)))
