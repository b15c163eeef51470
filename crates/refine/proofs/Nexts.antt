-- Which birth comes next, from the unmatched transitions of the one and of the other.
use Rattle.std.proofs.Common.{◌≡◌, ℕ, Bool, ap, ◌∙◌}
use mathlib.Core.Option.{Option, some, none}
use Rattle.lts.specs.declared.Transition.{Transition}
use Rattle.lts.specs.Machine.{Machine}
use Rattle.lts.specs.Line.{given}
use Rattle.theory.specs.Births.{Birth, birth, unmatched, next_birth}

module _ (m : Machine) (r : ℕ → ℕ → Bool) (k p s : ℕ) where
  abbrev second : Option Transition → Option Birth
  second o = given o none (λ t. some (birth k p t))

  pub next_of_one : (t : Transition) → unmatched m r p s ≡ some t → next_birth m r k p s ≡ some (birth k s t)
  unfolding next_birth
  next_of_one t e = ap (λ (o : Option Transition). given o (second (unmatched m r s p)) (λ t. some (birth k s t))) e

  pub next_of_other : (o : Option Transition) → unmatched m r p s ≡ none → unmatched m r s p ≡ o → next_birth m r k p s ≡ second o
  unfolding next_birth
  next_of_other o e f = ap (λ (o : Option Transition). given o (second (unmatched m r s p)) (λ t. some (birth k s t))) e ∙ ap second f
