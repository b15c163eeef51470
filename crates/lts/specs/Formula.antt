-- What an observer can say of a state: Hennessy–Milner formulas.
use Rattle.std.specs.Prelude.{ℕ, suc, max, Bool, true, false, not, ◌&&◌, ◌||◌, List, [], ◌∷◌, ◌==◌}
use Rattle.lts.specs.declared.Transition.{Transition}
use Rattle.lts.specs.Machine.{Machine}

-- top: always; neg: not; and: both; dia a f: a can be taken so that then f holds
pub data Formula : Type 0 where
  top : Formula
  neg : Formula → Formula
  and : Formula → Formula → Formula
  dia : ℕ → Formula → Formula

-- some transition from s by a leads to a state that passes f
abbrev pub any_step : List Transition → ℕ → ℕ → (ℕ → Bool) → Bool
any_step [] s a f = false
any_step (t ∷ ts) s a f = (t.source == s && (t.label == a && f t.target)) || any_step ts s a f

-- the formula holds of the state
abbrev pub satisfies : Machine → Formula → ℕ → Bool
satisfies m top s = true
satisfies m (neg f) s = not (satisfies m f s)
satisfies m (and f g) s = satisfies m f s && satisfies m g s
satisfies m (dia a f) s = any_step m.transitions s a (satisfies m f)

-- modal depth: how many steps in a row it looks ahead
abbrev pub depth : Formula → ℕ
depth top = 0
depth (neg f) = depth f
depth (and f g) = max (depth f) (depth g)
depth (dia a f) = suc (depth f)
