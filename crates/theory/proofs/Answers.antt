-- Rows of answers: equal rows, the first difference, the mask of terms, and leaders when a formula is added.
use Rattle.std.proofs.Common.{◌≡◌, ℕ, ◌<◌, ◌≤◌, Bool, true, false, cond, not, ◌&&◌, ◌||◌, T, eqb, List, [], ◌∷◌, length, sym, refl, ap, ◌∙◌, subst, inl, inr, true≢false, arith}
use mathlib.Core.Bool.{beq}
use mathlib.Core.Path.{fun_ext}
use Rattle.lts.specs.Machine.{Machine}
use Rattle.lts.specs.Formula.{Formula, top, neg, satisfies, any_step}
use Rattle.theory.specs.Blocks.{leader}
use Rattle.theory.specs.Births.{Birth, same, needed, formula}
use Rattle.theory.specs.Rows.{agrees, from_oldest, answer, first, wanted}
use Rattle.theory.proofs.Bools.{T-or_not, not_both, T-is, not_is, and_in, and_0, and_1, not_T_of, implies_in, implies_out, beq_is, is_beq}
use Rattle.theory.proofs.Counting.{below_suc}
use Rattle.theory.proofs.Leaders.{leader_not, leader_in, leader_is, leader_same, same_leader}
use Rattle.theory.proofs.Terms.{same_equivalence, same_head, same_tail, same_cons, satisfies_body}
use Rattle.std.proofs.lemmas.Bool.{eq-eqb, ne_eqb}

-- the newest stands at the length of the rest; the others stand where they stood
pub from_oldest_new : {A : Type 0} (d x : A) (xs : List A) → from_oldest d (x ∷ xs) (length xs) ≡ x
from_oldest_new d x xs = ap (λ b. cond b x (from_oldest d xs (length xs))) (eq-eqb (length xs) (length xs) refl)

pub from_oldest_old : {A : Type 0} (d x : A) (xs : List A) (j : ℕ) → j < length xs → from_oldest d (x ∷ xs) j ≡ from_oldest d xs j
from_oldest_old d x xs j h = ap (λ b. cond b x (from_oldest d xs j)) (ne_eqb j (length xs) (λ e. omega arith))

-- past the newest there is the default
pub from_oldest_past : {A : Type 0} (d : A) (xs : List A) (j : ℕ) → length xs ≤ j → from_oldest d xs j ≡ d
from_oldest_past d [] j h = refl
from_oldest_past d (x ∷ xs) j h = ap (λ b. cond b x (from_oldest d xs j)) (ne_eqb j (length xs) (λ e. omega arith)) ∙ from_oldest_past d xs j (omega arith)

-- the answer to the newest formula is the bit at the length of the rest
pub answer_new : (m : Machine) (f : Formula) (fs : List Formula) (s : ℕ) → answer m (f ∷ fs) (length fs) s ≡ satisfies m f s
answer_new m f fs s = ap (λ g. satisfies m g s) (from_oldest_new (neg top) f fs)

-- the other bits stay
pub answer_old : (m : Machine) (f : Formula) (fs : List Formula) (j s : ℕ) → j < length fs → answer m (f ∷ fs) j s ≡ answer m fs j s
answer_old m f fs j s h = ap (λ g. satisfies m g s) (from_oldest_old (neg top) f fs j h)

-- the bits not yet used are 0
pub answer_past : (m : Machine) (fs : List Formula) (j s : ℕ) → length fs ≤ j → answer m fs j s ≡ false
answer_past m fs j s h = ap (λ g. satisfies m g s) (from_oldest_past (neg top) fs j h)

-- equal answers at every place are equal answers to all formulas, and the other way round
pub same_answer : (m : Machine) (fs : List Formula) (s t j : ℕ) → T (same m fs s t) → answer m fs j s ≡ answer m fs j t
same_answer m [] s t j h = refl
same_answer m (f ∷ fs) s t j h = go (eqb j (length fs)) (same_answer m fs s t j (same_tail m f fs s t h))
  where
    go : (b : Bool) → answer m fs j s ≡ answer m fs j t → satisfies m (cond b f (from_oldest (neg top) fs j)) s ≡ satisfies m (cond b f (from_oldest (neg top) fs j)) t
    go true e = same_head m f fs s t h
    go false e = e

-- the other way round
pub answer_same : (m : Machine) (fs : List Formula) (s t : ℕ) → ((j : ℕ) → j < length fs → answer m fs j s ≡ answer m fs j t) → T (same m fs s t)
answer_same m [] s t h = tt
answer_same m (f ∷ fs) s t h = same_cons m f fs s t
    (sym (answer_new m f fs s) ∙ h (length fs) (omega arith) ∙ answer_new m f fs t)
    (answer_same m fs s t (λ j g. sym (answer_old m f fs j s g) ∙ h j (omega arith) ∙ answer_old m f fs j t g))

-- the first difference: the newest formula if the rest answer alike, else the first of the rest
pub first_new : (m : Machine) (f : Formula) (fs : List Formula) (s t : ℕ) → T (same m fs s t) → first m (f ∷ fs) s t ≡ length fs
first_new m f fs s t h = ap (λ b. cond b (length fs) (first m fs s t)) (T-is (same m fs s t) h)

-- the first difference among the rest stays it
pub first_old : (m : Machine) (f : Formula) (fs : List Formula) (s t : ℕ) → T (not (same m fs s t)) → first m (f ∷ fs) s t ≡ first m fs s t
first_old m f fs s t h = ap (λ b. cond b (length fs) (first m fs s t)) (not_is (same m fs s t) h)

-- it is a place of the list
pub first_below : (m : Machine) (fs : List Formula) (s t : ℕ) → T (not (same m fs s t)) → first m fs s t < length fs
first_below m [] s t h = absurd h
first_below m (f ∷ fs) s t h = elim (T-or_not (same m fs s t)) [
  | inl g ↦ omega (arith, first_new m f fs s t g)
  | inr g ↦ omega (arith, first_old m f fs s t g, first_below m fs s t g)
]

-- the answers differ there
pub first_differs : (m : Machine) (fs : List Formula) (s t : ℕ) → T (not (same m fs s t)) → answer m fs (first m fs s t) s ≡ answer m fs (first m fs s t) t → ⊥
first_differs m [] s t h e = h
first_differs m (f ∷ fs) s t h e = elim (T-or_not (same m fs s t)) [
  | inl g ↦
      let w = first_new m f fs s t g in
      not_both (same m (f ∷ fs) s t) (same_cons m f fs s t (sym (answer_new m f fs s) ∙ subst (λ j. answer m (f ∷ fs) j s ≡ answer m (f ∷ fs) j t) w e ∙ answer_new m f fs t) g) h
  | inr g ↦
      let w = first_old m f fs s t g in
      let b = first_below m fs s t g in
      first_differs m fs s t g (sym (answer_old m f fs (first m fs s t) s b) ∙ subst (λ j. answer m (f ∷ fs) j s ≡ answer m (f ∷ fs) j t) w e ∙ answer_old m f fs (first m fs s t) t b)
]

-- and nowhere before
pub first_agrees : (m : Machine) (fs : List Formula) (s t j : ℕ) → j < first m fs s t → answer m fs j s ≡ answer m fs j t
first_agrees m [] s t j h = refl
first_agrees m (f ∷ fs) s t j h = elim (T-or_not (same m fs s t)) [
  | inl g ↦
      let b : j < length fs = omega (arith, first_new m f fs s t g) in
      answer_old m f fs j s b ∙ same_answer m fs s t j g ∙ sym (answer_old m f fs j t b)
  | inr g ↦
      let b : j < first m fs s t = omega (arith, first_old m f fs s t g) in
      let c : j < length fs = omega (arith, first_below m fs s t g) in
      answer_old m f fs j s c ∙ first_agrees m fs s t j b ∙ sym (answer_old m f fs j t c)
]

-- which determines it
pub first_is : (m : Machine) (fs : List Formula) (s t j : ℕ) → (answer m fs j s ≡ answer m fs j t → ⊥) → ((i : ℕ) → i < j → answer m fs i s ≡ answer m fs i t) → first m fs s t ≡ j
first_is m fs s t j h g =
    let parted : T (not (same m fs s t)) = elim (T-or_not (same m fs s t)) [ inl p ↦ absurd (h (same_answer m fs s t j p)) | inr p ↦ p ] in
    let up : first m fs s t < j → ⊥ = λ p. first_differs m fs s t parted (g (first m fs s t) p) in
    let down : j < first m fs s t → ⊥ = λ p. h (first_agrees m fs s t j p) in
    omega arith

new_test : (e r : Bool) (l f : ℕ) → (T (not r) → f < l) → (not (e && r) && eqb (cond r l f) l) ≡ (r && not e)
new_test true true l f h = refl
new_test false true l f h = eq-eqb l l refl
new_test true false l f h = ne_eqb f l (λ e. let g = h tt in omega arith)
new_test false false l f h = ne_eqb f l (λ e. let g = h tt in omega arith)

old_test : (e r : Bool) (l f j : ℕ) → j < l → (not (e && r) && eqb (cond r l f) j) ≡ (not r && eqb f j)
old_test true true l f j h = refl
old_test false true l f j h = ne_eqb l j (λ e. omega arith)
old_test true false l f j h = refl
old_test false false l f j h = refl

-- the mask of terms: the newest is in it if it is needed, the others as before
pub wanted_new : (m : Machine) (f : Formula) (fs : List Formula) (a u y : ℕ) → wanted m (f ∷ fs) a u y (length fs) ≡ needed m f fs a u y
wanted_new m f fs a u y = ap (any_step m.transitions y a) (fun_ext (λ v. new_test (beq (satisfies m f u) (satisfies m f v)) (same m fs u v) (length fs) (first m fs u v) (first_below m fs u v)))

-- the others are in it as before
pub wanted_old : (m : Machine) (f : Formula) (fs : List Formula) (a u y j : ℕ) → j < length fs → wanted m (f ∷ fs) a u y j ≡ wanted m fs a u y j
wanted_old m f fs a u y j h = ap (any_step m.transitions y a) (fun_ext (λ v. old_test (beq (satisfies m f u) (satisfies m f v)) (same m fs u v) (length fs) (first m fs u v) j h))

-- to agree is to have u's bits on the mask
pub agrees_mask : (m : Machine) (fs : List Formula) (a u y v : ℕ) → T (agrees m fs a u y v) → (j : ℕ) → j < length fs → T (wanted m fs a u y j) → answer m fs j u ≡ answer m fs j v
agrees_mask m [] a u y v h j p g = refl
agrees_mask m (f ∷ fs) a u y v h j p g =
    let n = needed m f fs a u y in
    let e = beq (satisfies m f u) (satisfies m f v) in
    elim (below_suc j (length fs) p) [
      | inl q ↦ answer_old m f fs j u q ∙ agrees_mask m fs a u y v (and_1 (not n || e) (agrees m fs a u y v) h) j q (subst T (wanted_old m f fs a u y j q) g) ∙ sym (answer_old m f fs j v q)
      | inr q ↦ subst (λ i. answer m (f ∷ fs) i u ≡ answer m (f ∷ fs) i v) (sym q)
          (answer_new m f fs u ∙ beq_is (satisfies m f u) (satisfies m f v) (implies_out n e (and_0 (not n || e) (agrees m fs a u y v) h) (subst T (wanted_new m f fs a u y) (subst (λ i. T (wanted m (f ∷ fs) a u y i)) q g))) ∙ sym (answer_new m f fs v))
    ]

-- the other way round
pub mask_agrees : (m : Machine) (fs : List Formula) (a u y v : ℕ) → ((j : ℕ) → j < length fs → T (wanted m fs a u y j) → answer m fs j u ≡ answer m fs j v) → T (agrees m fs a u y v)
mask_agrees m [] a u y v h = tt
mask_agrees m (f ∷ fs) a u y v h =
    let n = needed m f fs a u y in
    let e = beq (satisfies m f u) (satisfies m f v) in
    and_in (not n || e) (agrees m fs a u y v)
    (implies_in n e (λ g. is_beq (satisfies m f u) (satisfies m f v) (sym (answer_new m f fs u) ∙ h (length fs) (omega arith) (subst T (sym (wanted_new m f fs a u y)) g) ∙ answer_new m f fs v)))
    (mask_agrees m fs a u y v (λ j p g. sym (answer_old m f fs j u p) ∙ h j (omega arith) (subst T (sym (wanted_old m f fs a u y j p)) g) ∙ answer_old m f fs j v p))

-- a new formula holds of those with a transition by its label to a state that agrees with `reach` on the mask
pub satisfies_formula : (m : Machine) (fs : List Formula) (b : Birth) (s : ℕ) → satisfies m (formula m fs b) s ≡ any_step m.transitions s b.label (agrees m fs b.label b.reach b.lack)
satisfies_formula m fs b s = ap (any_step m.transitions s b.label) (fun_ext (satisfies_body m fs b.label b.reach b.lack))

-- equal answers are equal leaders
pub same_leads : (m : Machine) (fs : List Formula) (s t : ℕ) → T (same m fs s t) → leader (same m fs) s ≡ leader (same m fs) t
same_leads m fs = leader_same (same m fs) (same_equivalence m fs)

-- equal leaders are equal answers
pub leads_same : (m : Machine) (fs : List Formula) (s t : ℕ) → leader (same m fs) s ≡ leader (same m fs) t → T (same m fs s t)
leads_same m fs = same_leader (same m fs) (same_equivalence m fs)

-- a leader whose answer to a new formula is one's own stays
pub leader_stays : (m : Machine) (f : Formula) (fs : List Formula) (t : ℕ) → satisfies m f (leader (same m fs) t) ≡ satisfies m f t → leader (same m (f ∷ fs)) t ≡ leader (same m fs) t
leader_stays m f fs t e = leader_is (same m (f ∷ fs)) (same_equivalence m (f ∷ fs)) t (leader (same m fs) t)
    (same_cons m f fs (leader (same m fs) t) t e (leader_in (same m fs) (same_equivalence m fs) t))
    (λ z h. not_T_of (same m (f ∷ fs) z t) (same m fs z t) (same_tail m f fs z t) (leader_not (same m fs) t z h))

-- those of its block that answer otherwise are led by the least of them
pub leader_moves : (m : Machine) (f : Formula) (fs : List Formula) (q x t : ℕ) → leader (same m fs) x ≡ q → leader (same m fs) t ≡ q
    → satisfies m f x ≡ not (satisfies m f q) → satisfies m f t ≡ not (satisfies m f q)
    → ((z : ℕ) → z < x → leader (same m fs) z ≡ q → satisfies m f z ≡ satisfies m f q) → leader (same m (f ∷ fs)) t ≡ x
leader_moves m f fs q x t ex et dx dt h = leader_is (same m (f ∷ fs)) (same_equivalence m (f ∷ fs)) t x
    (same_cons m f fs x t (dx ∙ sym dt) (leads_same m fs x t (ex ∙ sym et)))
    (λ z p. elim (T-or_not (same m (f ∷ fs) z t)) [
      | inl g ↦ absurd (not_self (satisfies m f q) (sym (h z p (same_leads m fs z t (same_tail m f fs z t g) ∙ et)) ∙ same_head m f fs z t g ∙ dt))
      | inr g ↦ g
    ])
  where
    not_self : (b : Bool) → b ≡ not b → ⊥
    not_self true e = true≢false e
    not_self false e = true≢false (sym e)
