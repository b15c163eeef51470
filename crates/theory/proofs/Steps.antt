-- Transitions among a list: from tests to steps and back.
use Rattle.std.proofs.Common.{◌≡◌, ℕ, Bool, not, ◌&&◌, ◌||◌, T, eqb, List, [], ◌∷◌, refl, subst, inl, inr, eqb→eq}
use lib.Dec.{eqb_refl}
use Rattle.lts.specs.declared.Transition.{Transition}
use Rattle.lts.specs.Machine.{Among, here, later}
use Rattle.lts.specs.Formula.{any_step}
use Rattle.theory.specs.Together.{all_steps}
use Rattle.theory.proofs.Bools.{T-or_not, not_both, and_in, and_0, and_1, and_not, or_0, or_1, or_out, implies_in, implies_out, implies_not}

-- a transition by its three numbers
abbrev pub step : ℕ → ℕ → ℕ → Transition
step s a u = record { source = s; label = a; target = u }

-- the head of a list, read as a step
pub head_step : (t : Transition) (ts : List Transition) (s a u : ℕ) → t.source ≡ s → t.label ≡ a → t.target ≡ u → Among (step s a u) (t ∷ ts)
head_step t ts s a u p q r = subst (λ (x : Transition). Among x (t ∷ ts)) (λ i. record { source = p i; label = q i; target = r i }) here

-- some transition passes: which
pub any_out : (ts : List Transition) (s a : ℕ) (f : ℕ → Bool) → T (any_step ts s a f) → (u : ℕ) × Among (step s a u) ts × T (f u)
any_out [] s a f h = absurd h
any_out (t ∷ ts) s a f h = elim (or_out (eqb t.source s && (eqb t.label a && f t.target)) (any_step ts s a f) h) [
  | inl g ↦
      let g' = and_1 (eqb t.source s) (eqb t.label a && f t.target) g in
      (t.target, head_step t ts s a t.target (eqb→eq t.source s (and_0 (eqb t.source s) (eqb t.label a && f t.target) g)) (eqb→eq t.label a (and_0 (eqb t.label a) (f t.target) g')) refl, and_1 (eqb t.label a) (f t.target) g')
  | inr g ↦ let r = any_out ts s a f g in (r.0, later r.1, r.2)
]

-- a transition that passes
pub any_in : (s a u : ℕ) (f : ℕ → Bool) {ts : List Transition} → Among (step s a u) ts → T (f u) → T (any_step ts s a f)
any_in s a u f (here {ts}) h = or_0 (eqb s s && (eqb a a && f u)) (any_step ts s a f) (and_in (eqb s s) (eqb a a && f u) (eqb_refl s) (and_in (eqb a a) (f u) (eqb_refl a) h))
any_in s a u f (later {t} {ts} g) h = or_1 (eqb t.source s && (eqb t.label a && f t.target)) (any_step ts s a f) (any_in s a u f g h)

-- all transitions from s pass, if each does
pub all_in : (ts : List Transition) (s : ℕ) (f : ℕ → ℕ → Bool) → ((a u : ℕ) → Among (step s a u) ts → T (f a u)) → T (all_steps ts s f)
all_in [] s f h = tt
all_in (t ∷ ts) s f h = and_in (not (eqb t.source s) || f t.label t.target) (all_steps ts s f) (implies_in (eqb t.source s) (f t.label t.target) (λ e. h t.label t.target (head_step t ts s t.label t.target (eqb→eq t.source s e) refl refl))) (all_in ts s f (λ a u g. h a u (later g)))

-- and then each does
pub all_out : (s a u : ℕ) (f : ℕ → ℕ → Bool) {ts : List Transition} → Among (step s a u) ts → T (all_steps ts s f) → T (f a u)
all_out s a u f (here {ts}) h = implies_out (eqb s s) (f a u) (and_0 (not (eqb s s) || f a u) (all_steps ts s f) h) (eqb_refl s)
all_out s a u f (later {t} {ts} g) h = all_out s a u f g (and_1 (not (eqb t.source s) || f t.label t.target) (all_steps ts s f) h)

-- if not all pass, one that does not
pub all_not : (ts : List Transition) (s : ℕ) (f : ℕ → ℕ → Bool) → T (not (all_steps ts s f)) → (a : ℕ) × (u : ℕ) × Among (step s a u) ts × T (not (f a u))
all_not [] s f h = absurd h
all_not (t ∷ ts) s f h = elim (and_not (not (eqb t.source s) || f t.label t.target) (all_steps ts s f) h) [
  | inl g ↦
      let p = implies_not (eqb t.source s) (f t.label t.target) g in
      (t.label, t.target, head_step t ts s t.label t.target (eqb→eq t.source s p.0) refl refl, p.1)
  | inr g ↦ let r = all_not ts s f g in (r.0, r.1, later r.2, r.3)
]

-- nothing stands among none
pub not_among : {x : Transition} {A : Type 0} → Among x [] → A
not_among g = elim g [ ]

-- what stands among a head and a tail is the head or among the tail
pub among_cons : (P : Transition → Type 0) {x t : Transition} {ts : List Transition} → P t → (Among x ts → P x) → Among x (t ∷ ts) → P x
among_cons P h g here = h
among_cons P h g (later w) = g w

-- none passes, if each does not
pub any_not : (ts : List Transition) (s a : ℕ) (f : ℕ → Bool) → ((u : ℕ) → Among (step s a u) ts → T (not (f u))) → T (not (any_step ts s a f))
any_not ts s a f h = elim (T-or_not (any_step ts s a f)) [
  | inl g ↦ let w = any_out ts s a f g in absurd (not_both (f w.0) w.2 (h w.0 w.1))
  | inr g ↦ g
]
