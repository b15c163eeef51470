-- The formula of a birth: what its body says, of whom it holds, and how deep it is.
use Rattle.std.proofs.Common.{◌≡◌, ℕ, ◌≤◌, max, Bool, true, false, cond, not, ◌&&◌, ◌||◌, T, List, [], ◌∷◌, sym, refl, ap, ◌∙◌, subst, ap₂, inl, inr, arith}
use mathlib.Core.Bool.{beq, and_comm}
use Rattle.lts.specs.Machine.{Machine, Step}
use Rattle.lts.specs.Formula.{Formula, top, neg, and, dia, satisfies, depth}
use Rattle.theory.specs.Births.{Birth, same, term, both, needed, body, formula, formulas, alike, Extends, begun, grown}
use Rattle.theory.specs.Rows.{agrees}
use Rattle.theory.proofs.Bools.{T-or_not, not_both, and_in, and_0, and_1, and_not, and_not_0, and_not_1, implies_in, not_T_of, beq_is, is_beq}
use Rattle.theory.proofs.Steps.{any_in, any_not}
use Rattle.theory.proofs.Leaders.{Within}
use Rattle.theory.specs.Blocks.{Equivalence}

-- one formula more: equal answers to it
pub same_head : (m : Machine) (f : Formula) (fs : List Formula) (s t : ℕ) → T (same m (f ∷ fs) s t) → satisfies m f s ≡ satisfies m f t
same_head m f fs s t h = beq_is (satisfies m f s) (satisfies m f t) (and_0 (beq (satisfies m f s) (satisfies m f t)) (same m fs s t) h)

-- and to the rest
pub same_tail : (m : Machine) (f : Formula) (fs : List Formula) → Within (same m (f ∷ fs)) (same m fs)
same_tail m f fs s t h = and_1 (beq (satisfies m f s) (satisfies m f t)) (same m fs s t) h

-- from both
pub same_cons : (m : Machine) (f : Formula) (fs : List Formula) (s t : ℕ) → satisfies m f s ≡ satisfies m f t → T (same m fs s t) → T (same m (f ∷ fs) s t)
same_cons m f fs s t e h = and_in (beq (satisfies m f s) (satisfies m f t)) (same m fs s t) (is_beq (satisfies m f s) (satisfies m f t) e) h

same_refl : (m : Machine) (fs : List Formula) (s : ℕ) → T (same m fs s s)
same_refl m [] s = tt
same_refl m (f ∷ fs) s = same_cons m f fs s s refl (same_refl m fs s)

same_sym : (m : Machine) (fs : List Formula) (s t : ℕ) → T (same m fs s t) → T (same m fs t s)
same_sym m [] s t h = tt
same_sym m (f ∷ fs) s t h = same_cons m f fs t s (sym (same_head m f fs s t h)) (same_sym m fs s t (same_tail m f fs s t h))

same_trans : (m : Machine) (fs : List Formula) (s t u : ℕ) → T (same m fs s t) → T (same m fs t u) → T (same m fs s u)
same_trans m [] s t u h g = tt
same_trans m (f ∷ fs) s t u h g = same_cons m f fs s u (same_head m f fs s t h ∙ same_head m f fs t u g) (same_trans m fs s t u (same_tail m f fs s t h) (same_tail m f fs t u g))

-- equal answers are an equivalence
pub same_equivalence : (m : Machine) (fs : List Formula) → Equivalence (same m fs)
same_equivalence m fs = record { itself = same_refl m fs; turned = same_sym m fs; over = same_trans m fs }

satisfies_both : (m : Machine) (f g : Formula) (s : ℕ) → satisfies m (both f g) s ≡ (satisfies m f s && satisfies m g s)
satisfies_both m top g s = refl
satisfies_both m (neg f) g s = refl
satisfies_both m (and f e) g s = refl
satisfies_both m (dia a f) g s = refl

depth_both : (f g : Formula) → depth (both f g) ≤ max (depth f) (depth g)
depth_both top g = omega arith
depth_both (neg f) g = omega arith
depth_both (and f e) g = omega arith
depth_both (dia a f) g = omega arith

beq_true : (c : Bool) → c ≡ beq true c
beq_true true = refl
beq_true false = refl

beq_false : (c : Bool) → not c ≡ beq false c
beq_false true = refl
beq_false false = refl

-- a term holds of those that answer as u does
pub satisfies_term : (m : Machine) (f : Formula) (u v : ℕ) → satisfies m (term m f u) v ≡ beq (satisfies m f u) (satisfies m f v)
satisfies_term m f u v = go (satisfies m f u)
  where
    go : (b : Bool) → satisfies m (cond b f (neg f)) v ≡ beq b (satisfies m f v)
    go true = beq_true (satisfies m f v)
    go false = beq_false (satisfies m f v)

-- a term is as deep as its formula
pub depth_term : (m : Machine) (f : Formula) (u : ℕ) → depth (term m f u) ≡ depth f
depth_term m f u = go (satisfies m f u)
  where
    go : (b : Bool) → depth (cond b f (neg f)) ≡ depth f
    go true = refl
    go false = refl

satisfies_join : (m : Machine) (n : Bool) (g t : Formula) (v : ℕ) → satisfies m (cond n (both g t) g) v ≡ ((not n || satisfies m t v) && satisfies m g v)
satisfies_join m true g t v = satisfies_both m g t v ∙ and_comm (satisfies m g v) (satisfies m t v)
satisfies_join m false g t v = refl

-- the body holds of those that answer as u does to each needed formula
pub satisfies_body : (m : Machine) (fs : List Formula) (a u y v : ℕ) → satisfies m (body m fs a u y) v ≡ agrees m fs a u y v
satisfies_body m [] a u y v = refl
satisfies_body m (f ∷ fs) a u y v = satisfies_join m (needed m f fs a u y) (body m fs a u y) (term m f u) v
    ∙ ap₂ ◌&&◌ (ap (λ c. not (needed m f fs a u y) || c) (satisfies_term m f u v)) (satisfies_body m fs a u y v)

-- u itself does
pub agrees_itself : (m : Machine) (fs : List Formula) (a u y : ℕ) → T (agrees m fs a u y u)
agrees_itself m [] a u y = tt
agrees_itself m (f ∷ fs) a u y = and_in (not (needed m f fs a u y) || beq (satisfies m f u) (satisfies m f u)) (agrees m fs a u y u)
    (implies_in (needed m f fs a u y) (beq (satisfies m f u) (satisfies m f u)) (λ _. is_beq (satisfies m f u) (satisfies m f u) refl)) (agrees_itself m fs a u y)

pub agrees_not : (m : Machine) (fs : List Formula) (a u y v : ℕ) → Step m y a v → T (not (same m fs u v)) → T (not (agrees m fs a u y v))
agrees_not m [] a u y v p h = absurd h
agrees_not m (f ∷ fs) a u y v p h =
    let n = needed m f fs a u y in
    let e = beq (satisfies m f u) (satisfies m f v) in
    elim (T-or_not (same m fs u v)) [
      | inr g ↦ and_not_1 (not n || e) (agrees m fs a u y v) (agrees_not m fs a u y v p g)
      | inl g ↦ elim (and_not e (same m fs u v) h) [
        | inr q ↦ absurd (not_both (same m fs u v) g q)
        | inl q ↦ and_not_0 (not n || e) (agrees m fs a u y v)
            (either_fails n e (any_in y a v (λ w. same m fs u w && not (beq (satisfies m f u) (satisfies m f w))) p (and_in (same m fs u v) (not e) g q)) q)
      ]
    ]
  where
    either_fails : (n e : Bool) → T n → T (not e) → T (not (not n || e))
    either_fails true e h g = g
    either_fails false e h g = absurd h

-- the formula of a birth holds of whoever reaches `reach` by its label
pub formula_holds : (m : Machine) (fs : List Formula) (b : Birth) (x : ℕ) → Step m x b.label b.reach → T (satisfies m (formula m fs b) x)
formula_holds m fs b x h =
    let g = body m fs b.label b.reach b.lack in
    any_in x b.label b.reach (satisfies m g) h (subst T (sym (satisfies_body m fs b.label b.reach b.lack b.reach)) (agrees_itself m fs b.label b.reach b.lack))

-- and not of `lack`, if all that it reaches by the label is told from `reach`
pub formula_fails : (m : Machine) (fs : List Formula) (b : Birth) → ((v : ℕ) → Step m b.lack b.label v → T (not (same m fs b.reach v))) → T (not (satisfies m (formula m fs b) b.lack))
formula_fails m fs b h =
    let g = body m fs b.label b.reach b.lack in
    any_not m.transitions b.lack b.label (satisfies m g)
    (λ v p. subst (λ c. T (not c)) (sym (satisfies_body m fs b.label b.reach b.lack v)) (agrees_not m fs b.label b.reach b.lack v p (h v p)))

-- all formulas of a list are at most k deep
abbrev pub Shallow : ℕ → List Formula → Type 0
Shallow k [] = Unit {0}
Shallow k (f ∷ fs) = (depth f ≤ k) × Shallow k fs

depth_join : (m : Machine) (n : Bool) (g t : Formula) (k : ℕ) → depth g ≤ k → depth t ≤ k → depth (cond n (both g t) g) ≤ k
depth_join m true g t k h p = omega (arith, depth_both g t)
depth_join m false g t k h p = h

-- the body is no deeper than what it is made from
pub body_depth : (m : Machine) (k : ℕ) (fs : List Formula) (a u y : ℕ) → Shallow k fs → depth (body m fs a u y) ≤ k
body_depth m k [] a u y h = omega arith
body_depth m k (f ∷ fs) a u y h = depth_join m (needed m f fs a u y) (body m fs a u y) (term m f u) k (body_depth m k fs a u y h.1) (omega (arith, depth_term m f u, h.0))

-- a list that began as one that began as another began as the other
pub extends_trans : {bs cs ds : List Birth} → Extends bs cs → Extends cs ds → Extends bs ds
extends_trans begun g = g
extends_trans (grown h) g = grown (extends_trans h g)

-- a longer list leaves alike only what was alike
pub extends_within : (m : Machine) {bs old : List Birth} → Extends bs old → Within (alike m bs) (alike m old)
extends_within m begun s t h = h
extends_within m (grown {b} {bs} g) s t h = extends_within m g s t (same_tail m (formula m (formulas m bs) b) (formulas m bs) s t h)

join_no : (n : Bool) (g t : Formula) → T (not n) → cond n (both g t) g ≡ g
join_no true g t h = absurd h
join_no false g t h = refl

-- where all is told apart by an older list, the body needs no newer formula
pub body_old : (m : Machine) (a u y : ℕ) {bs old : List Birth} → Extends bs old → ((v : ℕ) → Step m y a v → T (not (alike m old u v)))
    → body m (formulas m bs) a u y ≡ body m (formulas m old) a u y
body_old m a u y begun h = refl
body_old m a u y (grown {b} {bs} {old} g) h =
    let fs = formulas m bs in
    let f = formula m fs b in
    join_no (needed m f fs a u y) (body m fs a u y) (term m f u)
    (any_not m.transitions y a (λ v. same m fs u v && not (beq (satisfies m f u) (satisfies m f v)))
    (λ v p. and_not_0 (same m fs u v) (not (beq (satisfies m f u) (satisfies m f v))) (not_T_of (same m fs u v) (alike m old u v) (extends_within m g u v) (h v p))))
    ∙ body_old m a u y g h
