-- What tells states of a machine that was refined apart.
use Rattle.std.specs.Prelude.{◌≡◌, ℕ, ◌<◌, not, T, length, Some, None, Option}
use Rattle.lts.specs.Bisimulation.{Bisimilar}
use Rattle.lts.specs.Machine.{Machine}
use Rattle.theory.specs.Births.{formulas, alike, births}
use Rattle.theory.specs.Rows.{first, first_formula, TellsLeast}
use Rattle.chains.specs.System.{machine_of}
use Rattle.refine.specs.declared.refined.Refined.{Refined}

-- the machine that was refined
abbrev pub machine_in : Refined → Machine
machine_in r = machine_of (length r.answers.system.first.now) r.answers.system.words.now

-- formula j of the list, which has so many, is the first that tells s from t
pub record Tells (m : Machine) (count s t j : ℕ) : Type 0 where
  pub within : j < count
  pub apart : T (not (alike m (births m) s t))
  pub is : first m (formulas m (births m)) s t ≡ j

-- the two are bisimilar, or which formula is the first to tell them apart
abbrev pub FirstTelling : Machine → ℕ → ℕ → ℕ → Option ℕ → Type 0
FirstTelling m count s t None = Bisimilar m s t
FirstTelling m count s t (Some j) = Tells m count s t j

-- the two are bisimilar, or a formula of depth d tells the first from the second and none less deep tells them apart
abbrev pub Ahead : Machine → ℕ → ℕ → Option ℕ → Type 0
Ahead m s t None = Bisimilar m s t
Ahead m s t (Some d) = TellsLeast m s t (first_formula m (births m) s t) d
