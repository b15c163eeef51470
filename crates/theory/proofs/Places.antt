-- Transitions by their place in the list: what a loop over places needs to speak of steps and of the first unmatched one.
use Rattle.std.proofs.Common.{◌≡◌, ℕ, zero, suc, ◌<◌, Bool, cond, not, ◌&&◌, T, eqb, List, [], ◌∷◌, length, get_or, sym, refl, ap, ◌∙◌, subst, arith}
use mathlib.Core.Option.{some, none}
use Rattle.lts.specs.declared.Transition.{Transition}
use Rattle.lts.specs.Machine.{Among, here, later}
use Rattle.lts.specs.Formula.{any_step}
use Rattle.theory.specs.Births.{first_failing}
use Rattle.theory.proofs.Bools.{T-is, not_is}
use Rattle.theory.proofs.Steps.{any_out, any_in}

-- what stands at a place is among the list
pub among_at : (ts : List Transition) (i : ℕ) (d : Transition) → i < length ts → Among (get_or ts i d) ts
among_at [] i d h = absurd (omega arith)
among_at (t ∷ ts) zero d h = here
among_at (t ∷ ts) (suc i) d h = later (among_at ts i d (omega arith))

-- what is among the list has a place
pub place_of : (d : Transition) {x : Transition} {ts : List Transition} → Among x ts → (i : ℕ) × (i < length ts) × (get_or ts i d ≡ x)
place_of d here = (zero, omega arith, refl)
place_of d (later g) = let (i, h, e) = place_of d g in (suc i, omega arith, e)

-- some transition from s by a passes: at some place
pub any_place : (ts : List Transition) (s a : ℕ) (f : ℕ → Bool) (d : Transition) → T (any_step ts s a f)
    → (i : ℕ) × (i < length ts) × ((get_or ts i d).source ≡ s) × ((get_or ts i d).label ≡ a) × T (f (get_or ts i d).target)
any_place ts s a f d h =
    let (u, g, p) = any_out ts s a f h in
    let (i, l, e) = place_of d g in
    (i, l, ap (λ (t : Transition). t.source) e, ap (λ (t : Transition). t.label) e, subst (λ (t : Transition). T (f t.target)) (sym e) p)

-- one that passes at a place
pub place_any : (ts : List Transition) (s a : ℕ) (f : ℕ → Bool) (d : Transition) (i : ℕ) → i < length ts → (get_or ts i d).source ≡ s → (get_or ts i d).label ≡ a → T (f (get_or ts i d).target) → T (any_step ts s a f)
place_any ts s a f d i h p q g =
    let x : Transition = get_or ts i d in
    any_in s a x.target f (subst (λ (t : Transition). Among t ts) (λ j. record { source = p j; label = q j; target = x.target }) (among_at ts i d h)) g

-- the transition is from x and does not pass
abbrev pub fails_at : ℕ → (ℕ → ℕ → Bool) → Transition → Bool
fails_at x f t = eqb t.source x && not (f t.label t.target)

-- the first place where one fails is what is found
pub first_failing_at : (ts : List Transition) (x : ℕ) (f : ℕ → ℕ → Bool) (d : Transition) (i : ℕ) → i < length ts → ((j : ℕ) → j < i → T (not (fails_at x f (get_or ts j d)))) → T (fails_at x f (get_or ts i d))
    → first_failing ts x f ≡ some (get_or ts i d)
first_failing_at [] x f d i h none' g = absurd (omega arith)
first_failing_at (t ∷ ts) x f d zero h none' g = ap (λ b. cond b (some t) (first_failing ts x f)) (T-is (fails_at x f t) g)
first_failing_at (t ∷ ts) x f d (suc i) h none' g = ap (λ b. cond b (some t) (first_failing ts x f)) (not_is (fails_at x f t) (none' 0 (omega arith)))
    ∙ first_failing_at ts x f d i (omega arith) (λ j p. none' (suc j) (omega arith)) g

-- if none fails, nothing is found
pub first_failing_none : (ts : List Transition) (x : ℕ) (f : ℕ → ℕ → Bool) (d : Transition) → ((j : ℕ) → j < length ts → T (not (fails_at x f (get_or ts j d)))) → first_failing ts x f ≡ none
first_failing_none [] x f d h = refl
first_failing_none (t ∷ ts) x f d h = ap (λ b. cond b (some t) (first_failing ts x f)) (not_is (fails_at x f t) (h 0 (omega arith)))
    ∙ first_failing_none ts x f d (λ j p. h (suc j) (omega arith))
