-- Formulas and rounds: what is together after k rounds, no formula of depth k tells apart, and what is not, one does.
use Rattle.std.proofs.Common.{◌≡◌, ℕ, zero, suc, ◌≤◌, not, ◌&&◌, T, eqb, ◌⊎◌, List, [], ◌∷◌, sym, refl, ap, ◌∙◌, subst, ap₂, inl, inr, true≢false, arith, eqb→eq}
use lib.Dec.{eqb_refl}
use Rattle.lts.specs.declared.Transition.{Transition}
use Rattle.lts.specs.Machine.{Machine, Step, Among, later}
use Rattle.lts.specs.Formula.{Formula, top, neg, and, dia, satisfies, depth, any_step}
use Rattle.theory.specs.Together.{together, Unmatched, Told, SameTo, ApartBy}
use Rattle.theory.proofs.Bools.{T-or_not, T-is, is_T, not_is, is_not, not_both, and_in, and_0, and_1, and_not_0, and_not_1, iff_is}
use Rattle.theory.proofs.Steps.{step, any_out, any_in, any_not, head_step, not_among, among_cons}
use Rattle.theory.proofs.Rounds.{together_start, together_forth, together_back, together_not, together_sym}

-- a family of relations each of which is answered, both ways, into the one below
pub record Descends (m : Machine) (r : ℕ → ℕ → ℕ → Type 0) : Type 0 where
  pub forth : (k s t a u : ℕ) → r (suc k) s t → Step m s a u → (v : ℕ) × Step m t a v × r k u v
  pub back : (k s t a v : ℕ) → r (suc k) s t → Step m t a v → (u : ℕ) × Step m s a u × r k u v

-- such a family agrees on formulas as deep as its number
pub agree_by : (m : Machine) (r : ℕ → ℕ → ℕ → Type 0) → Descends m r → (f : Formula) (k s t : ℕ) → depth f ≤ k → r k s t → satisfies m f s ≡ satisfies m f t
agree_by m r d top k s t h g = refl
agree_by m r d (neg f) k s t h g = ap not (agree_by m r d f k s t h g)
agree_by m r d (and f e) k s t h g = ap₂ ◌&&◌ (agree_by m r d f k s t (omega arith) g) (agree_by m r d e k s t (omega arith) g)
agree_by m r d (dia a f) zero s t h g = absurd (omega arith)
agree_by m r d (dia a f) (suc k) s t h g = iff_is (any_step m.transitions s a (satisfies m f)) (any_step m.transitions t a (satisfies m f))
    (λ p.
    let x = any_out m.transitions s a (satisfies m f) p in
    let y = d.forth k s t a x.0 g x.1 in
    any_in t a y.0 (satisfies m f) y.1 (subst T (agree_by m r d f k x.0 y.0 (omega arith) y.2) x.2))
    (λ p.
    let x = any_out m.transitions t a (satisfies m f) p in
    let y = d.back k s t a x.0 g x.1 in
    any_in s a y.0 (satisfies m f) y.1 (subst T (sym (agree_by m r d f k y.0 x.0 (omega arith) y.2)) x.2))

-- `together` is such a family
pub together_descends : (m : Machine) → Descends m (λ k s t. T (together m k s t))
together_descends m = record {
  forth = λ k s t a u h g. together_forth m k s t h a u g;
  back = λ k s t a v h g. let w = together_back m k s t h a v g in (w.0, w.1, together_sym m k v w.0 w.2);
}

-- what is together after k rounds, no formula of depth k tells apart
pub together_agrees : (m : Machine) (k s t : ℕ) → T (together m k s t) → SameTo m k s t
together_agrees m k s t h f d = agree_by m (λ k s t. T (together m k s t)) (together_descends m) f k s t d h

-- from a formula for each state that y reaches by a, one for all
told_all : (m : Machine) (k u y a : ℕ) (ts : List Transition) → ((v : ℕ) → Among (step y a v) ts → Told m k u v)
    → (f : Formula) × T (satisfies m f u) × ((v : ℕ) → Among (step y a v) ts → T (not (satisfies m f v))) × (depth f ≤ k)
told_all m k u y a [] h = (top, tt, λ v g. not_among g, omega arith)
told_all m k u y a (t ∷ ts) h =
    let w = told_all m k u y a ts (λ v g. h v (later g)) in
    elim (T-or_not (eqb t.source y && eqb t.label a)) [
      | inl e ↦
          let o = h t.target (head_step t ts y a t.target (eqb→eq t.source y (and_0 (eqb t.source y) (eqb t.label a) e)) (eqb→eq t.label a (and_1 (eqb t.source y) (eqb t.label a) e)) refl) in (
            and o.0 w.0,
            and_in (satisfies m o.0 u) (satisfies m w.0 u) (is_T (satisfies m o.0 u) o.1) w.1,
            (λ v g. among_cons (λ (x : Transition). T (not (satisfies m o.0 x.target && satisfies m w.0 x.target)))
                (and_not_0 (satisfies m o.0 t.target) (satisfies m w.0 t.target) (is_not (satisfies m o.0 t.target) o.2))
                (λ p. and_not_1 (satisfies m o.0 v) (satisfies m w.0 v) (w.2 v p)) g),
            omega (arith, o.3, w.3),
          )
      | inr e ↦ (
        w.0,
        w.1,
        (λ v g. among_cons (λ (x : Transition). T (eqb x.source y && eqb x.label a) → T (not (satisfies m w.0 x.target)))
            (λ p. absurd (not_both (eqb t.source y && eqb t.label a) p e))
            (λ p _. w.2 v p) g (and_in (eqb y y) (eqb a a) (eqb_refl y) (eqb_refl a))),
        w.3,
      )
    ]

-- an unmatched transition, with a formula against each state that the other reaches, makes a formula one deeper
pub apart_told : (m : Machine) (k s t : ℕ) → ApartBy m k s t → Told m (suc k) s t
apart_told m k s t (a, u, p, h) =
    let w = told_all m k u t a m.transitions h in (
      dia a w.0,
      T-is (any_step m.transitions s a (satisfies m w.0)) (any_in s a u (satisfies m w.0) p w.1),
      not_is (any_step m.transitions t a (satisfies m w.0)) (any_not m.transitions t a (satisfies m w.0) w.2),
      omega (arith, w.3),
    )

-- told one way round, told the other way round: by `neg`
pub told_turned : (m : Machine) (k s t : ℕ) → Told m k s t → Told m k t s
told_turned m k s t (f, h, g, d) = (neg f, ap not g, ap not h, d)

-- from unmatched transitions to formulas, given a formula for each pair that k rounds part
unmatched_apart : (m : Machine) (k s t : ℕ) → ((x y : ℕ) → T (not (together m k x y)) → Told m k x y)
    → Unmatched m (together m k) s t ⊎ Unmatched m (together m k) t s → ApartBy m k s t ⊎ ApartBy m k t s
unmatched_apart m k s t told (inl (a, u, p, h)) = inl (a, u, p, λ v g. told u v (h v g))
unmatched_apart m k s t told (inr (a, u, p, h)) = inr (a, u, p, λ v g. told u v (h v g))

either_told : (m : Machine) (k s t : ℕ) → ApartBy m k s t ⊎ ApartBy m k t s → Told m (suc k) s t
either_told m k s t (inl h) = apart_told m k s t h
either_told m k s t (inr h) = told_turned m (suc k) t s (apart_told m k t s h)

-- what k rounds part, a formula of depth k tells apart
pub parted_told : (m : Machine) (k s t : ℕ) → T (not (together m k s t)) → Told m k s t
parted_told m zero s t h = absurd (not_both (together m zero s t) (together_start m s t) h)
parted_told m (suc k) s t h = either_told m k s t (unmatched_apart m k s t (parted_told m k) (together_not m k s t h))

-- and what one more round parts, an unmatched transition of the one or the other does
pub parted_apart : (m : Machine) (k s t : ℕ) → T (not (together m (suc k) s t)) → ApartBy m k s t ⊎ ApartBy m k t s
parted_apart m k s t h = unmatched_apart m k s t (parted_told m k) (together_not m k s t h)

-- what no formula of depth k tells apart is together
pub agrees_together : (m : Machine) (k s t : ℕ) → SameTo m k s t → T (together m k s t)
agrees_together m k s t h = elim (T-or_not (together m k s t)) [
  | inl g ↦ g
  | inr g ↦ let (f, p, q, d) = parted_told m k s t g in absurd (true≢false (sym p ∙ h f d ∙ q))
]
