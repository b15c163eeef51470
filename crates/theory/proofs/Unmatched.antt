-- What a computed unmatched transition, and the birth made from it, say.
use Rattle.std.proofs.Common.{◌≡◌, ℕ, Bool, true, false, cond, not, ◌&&◌, T, eqb, ◌⊎◌, List, [], ◌∷◌, refl, inl, inr, eqb→eq}
use mathlib.Core.Option.{Option, some, none}
use lib.Dec.{eqb_refl}
use Rattle.lts.specs.declared.Transition.{Transition}
use Rattle.lts.specs.Machine.{Machine, Step, Among, later}
use Rattle.lts.specs.Formula.{any_step}
use Rattle.lts.specs.Line.{given}
use Rattle.theory.specs.Births.{Birth, birth, first_failing, unmatched, next_birth}
use Rattle.theory.proofs.Bools.{T-or_not, not_both, and_in, and_0, and_1, not_T_of}
use Rattle.theory.proofs.Steps.{step, head_step, not_among, among_cons, any_out, any_in}
use Rattle.theory.specs.Together.{Matched}

-- none: all transitions from x pass; some: one that does not
abbrev Failing : List Transition → ℕ → (ℕ → ℕ → Bool) → Option Transition → Type 0
Failing ts x f none = (a u : ℕ) → Among (step x a u) ts → T (f a u)
Failing ts x f (some t) = Among (step x t.label t.target) ts × T (not (f t.label t.target))

failing_more : (t : Transition) (ts : List Transition) (x : ℕ) (f : ℕ → ℕ → Bool) (o : Option Transition) → T (not (eqb t.source x && not (f t.label t.target))) → Failing ts x f o → Failing (t ∷ ts) x f o
failing_more t ts x f none h g = λ a u p.
    among_cons (λ (y : Transition). T (eqb y.source x) → T (f y.label y.target))
    (λ e. elim (T-or_not (f t.label t.target)) [ inl w ↦ w | inr w ↦ absurd (not_both (eqb t.source x && not (f t.label t.target)) (and_in (eqb t.source x) (not (f t.label t.target)) e w) h) ])
    (λ q _. g a u q) p (eqb_refl x)
failing_more t ts x f (some w) h g = (later g.0, g.1)

failing_cond : (b : Bool) (t : Transition) (ts : List Transition) (x : ℕ) (f : ℕ → ℕ → Bool) (o : Option Transition)
    → (T b → Failing (t ∷ ts) x f (some t)) → (T (not b) → Failing (t ∷ ts) x f o) → Failing (t ∷ ts) x f (cond b (some t) o)
failing_cond true t ts x f o h g = h tt
failing_cond false t ts x f o h g = g tt

first_failing_says : (ts : List Transition) (x : ℕ) (f : ℕ → ℕ → Bool) → Failing ts x f (first_failing ts x f)
first_failing_says [] x f = λ a u g. not_among g
first_failing_says (t ∷ ts) x f =
    let b = eqb t.source x && not (f t.label t.target) in
    failing_cond b t ts x f (first_failing ts x f)
    (λ h. (head_step t ts x t.label t.target (eqb→eq t.source x (and_0 (eqb t.source x) (not (f t.label t.target)) h)) refl refl, and_1 (eqb t.source x) (not (f t.label t.target)) h))
    (λ h. failing_more t ts x f (first_failing ts x f) h (first_failing_says ts x f))

-- x has the step of a birth, and who lacks it nothing by that label into a related state
pub record Lacks (m : Machine) (r : ℕ → ℕ → Bool) (x : ℕ) (b : Birth) : Type 0 where
  pub has : Step m x b.label b.reach
  pub lacks : (v : ℕ) → Step m b.lack b.label v → T (not (r b.reach v))

-- none: x's transitions are matched by y; some: as a birth, x has it and y lacks it
abbrev Lacking : Machine → (ℕ → ℕ → Bool) → ℕ → ℕ → Option Transition → Type 0
Lacking m r x y none = Matched m r x y
Lacking m r x y (some t) = (k : ℕ) → Lacks m r x (birth k y t)

unmatched_says : (m : Machine) (r : ℕ → ℕ → Bool) (x y : ℕ) → Lacking m r x y (unmatched m r x y)
unfolding unmatched
unmatched_says m r x y = go (first_failing m.transitions x f) (first_failing_says m.transitions x f)
  where
    f : ℕ → ℕ → Bool
    f a u = any_step m.transitions y a (r u)

    go : (o : Option Transition) → Failing m.transitions x f o → Lacking m r x y o
    go none h = λ a u g. any_out m.transitions y a (r u) (h a u g)
    go (some t) h = λ k. record {
      has = h.0;
      lacks = λ v g. not_T_of (r t.target v) (f t.label t.target) (λ p. any_in y t.label v (r t.target) g p) h.1;
    }

-- none: the two match each other; some: a birth of this round, whose step the one has and the other lacks
abbrev pub Next : Machine → (ℕ → ℕ → Bool) → ℕ → ℕ → ℕ → Option Birth → Type 0
Next m r k p s none = Matched m r p s × Matched m r s p
Next m r k p s (some b) = (b.level ≡ k) × (((b.lack ≡ s) × Lacks m r p b) ⊎ ((b.lack ≡ p) × Lacks m r s b))

-- what is computed says so
pub next_birth_says : (m : Machine) (r : ℕ → ℕ → Bool) (k p s : ℕ) → Next m r k p s (next_birth m r k p s)
unfolding next_birth
next_birth_says m r k p s = go (unmatched m r p s) (unmatched m r s p) (unmatched_says m r p s) (unmatched_says m r s p)
  where
    go : (o w : Option Transition) → Lacking m r p s o → Lacking m r s p w → Next m r k p s (given o (given w none (λ t. some (birth k p t))) (λ t. some (birth k s t)))
    go none none h g = (h, g)
    go none (some t) h g = (refl, inr (refl, g k))
    go (some t) w h g = (refl, inl (refl, h k))
