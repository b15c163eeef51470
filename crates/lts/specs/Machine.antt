-- Machines: states numbered from 0, and transitions between them by labels. No limit on either.
-- A transition is the code's own struct: numbers `source`, `label` and `target`.
use Rattle.std.specs.Prelude.{ℕ, List, ◌∷◌}
use Rattle.lts.specs.declared.Transition.{Transition}

-- its states are the numbers below `states`; one state may have several transitions by one label
pub record Machine : Type 0 where
  pub states : ℕ
  pub transitions : List Transition

-- x stands in a list of transitions
pub data Among (x : Transition) : List Transition → Type 0 where
  here : {ts : List Transition} → Among x (x ∷ ts)
  later : {t : Transition} {ts : List Transition} → Among x ts → Among x (t ∷ ts)

-- from s one can go by a to t
abbrev pub Step : Machine → ℕ → ℕ → ℕ → Type 0
Step m s a t = Among (record { source = s; label = a; target = t }) m.transitions
