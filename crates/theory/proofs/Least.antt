-- The first formula to which two states answer differently is of least depth among those that tell them apart.
use Rattle.std.proofs.Common.{◌≡◌, ℕ, suc, ◌<◌, true, false, not, T, List, [], ◌∷◌, length, sym, refl, ap, ◌∙◌, subst, inl, inr, true≢false, arith}
use mathlib.Core.Bool.{beq}
use Rattle.lts.specs.Machine.{Machine}
use Rattle.lts.specs.Formula.{Formula, top, neg, satisfies, depth}
use Rattle.theory.specs.Births.{Birth, Born, AllBorn, alike, term, formula, formulas}
use Rattle.theory.specs.Rows.{from_oldest, first, first_formula, TellsLeast}
use Rattle.theory.proofs.Bools.{T-or_not, not_both, T-is, not_is, and_not, is_beq}
use Rattle.theory.proofs.Agreement.{together_agrees}
use Rattle.theory.proofs.Terms.{satisfies_term, depth_term}
use Rattle.theory.proofs.Answers.{from_oldest_new, from_oldest_old, first_new, first_old, first_below}

-- a formula for each birth
pub formulas_length : (m : Machine) (bs : List Birth) → length (formulas m bs) ≡ length bs
formulas_length m [] = refl
formulas_length m (b ∷ bs) = ap suc (formulas_length m bs)

-- a birth that answers s and t differently, after births to which they answer alike
born_tells : (m : Machine) (bs : List Birth) (b : Birth) (s t : ℕ) → Born m bs b → s < m.states → t < m.states
    → T (alike m bs s t) → T (not (alike m (b ∷ bs) s t)) → TellsLeast m s t (term m (formula m (formulas m bs) b) s) b.level
born_tells m bs b s t o hs ht h g =
    let f = formula m (formulas m bs) b in
    let e = beq (satisfies m f s) (satisfies m f t) in
    let l = o.level_is in
    let near : (x : Formula) → depth x < b.level → satisfies m x s ≡ satisfies m x t = λ x p. together_agrees m o.before s t (o.unparted_before s t hs ht h) x (omega arith) in
    let holds : satisfies m (term m f s) s ≡ true = satisfies_term m f s s ∙ T-is (beq (satisfies m f s) (satisfies m f s)) (is_beq (satisfies m f s) (satisfies m f s) refl) in
    let fails : satisfies m (term m f s) t ≡ false = satisfies_term m f s t ∙ not_is e (elim (and_not e (alike m bs s t) g) [ inl p ↦ p | inr p ↦ absurd (not_both (alike m bs s t) h p) ]) in
    let far : depth (term m f s) < b.level → ⊥ = λ p. true≢false (sym holds ∙ near (term m f s) p ∙ fails) in
    record { holds = holds; fails = fails; deep = omega (arith, far, depth_term m f s, o.shallow); least = near }

-- the first formula to which s and t answer differently is as deep as the round of its birth, and nothing less deep tells them apart
pub first_born_tells : (m : Machine) (k : ℕ) (d : Birth) (bs : List Birth) (s t : ℕ) → AllBorn m k bs → s < m.states → t < m.states → T (not (alike m bs s t))
    → TellsLeast m s t (first_formula m bs s t) (from_oldest d bs (first m (formulas m bs) s t)).level
first_born_tells m k d [] s t h hs ht g = absurd g
first_born_tells m k d (b ∷ bs) s t (l, o, h) hs ht g =
    let fs = formulas m bs in
    let f = formula m fs b in
    elim (T-or_not (alike m bs s t)) [
      | inl p ↦
          let e = first_new m f fs s t p in
          let i = ap (from_oldest (neg top) (f ∷ fs)) e ∙ from_oldest_new (neg top) f fs in
          let j = ap (from_oldest d (b ∷ bs)) (e ∙ formulas_length m bs) ∙ from_oldest_new d b bs in
          subst (λ (x : Formula). TellsLeast m s t (term m x s) (from_oldest d (b ∷ bs) (first m (f ∷ fs) s t)).level) (sym i)
          (subst (λ (x : Birth). TellsLeast m s t (term m f s) x.level) (sym j) (born_tells m bs b s t o hs ht p g))
      | inr p ↦
          let e = first_old m f fs s t p in
          let w = first_below m fs s t p in
          let i = ap (from_oldest (neg top) (f ∷ fs)) e ∙ from_oldest_old (neg top) f fs (first m fs s t) w in
          let j = ap (from_oldest d (b ∷ bs)) e ∙ from_oldest_old d b bs (first m fs s t) (omega (arith, formulas_length m bs)) in
          subst (λ (x : Formula). TellsLeast m s t (term m x s) (from_oldest d (b ∷ bs) (first m (f ∷ fs) s t)).level) (sym i)
          (subst (λ (x : Birth). TellsLeast m s t (first_formula m bs s t) x.level) (sym j) (first_born_tells m k d bs s t h hs ht p))
    ]
