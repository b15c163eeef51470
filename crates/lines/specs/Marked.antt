-- What is needed, as bits.
use Rattle.std.specs.Prelude.{◌≡◌, ℕ, ◌+◌, ◌*◌, ◌<◌, Bool, cond, List, length}
use Rattle.theory.specs.Blocks.{count}
use Rattle.theory.specs.Births.{births}
use Rattle.theory.specs.Told.{Demands, passed_on, demands, demand_one, lines_for, tell}
use Rattle.lent.specs.Bits.{bit_at}
use Rattle.formulas.specs.Link.{birth_at, births_of}
use Rattle.refine.specs.declared.refined.Refined.{Refined}
use Rattle.refine.specs.Refined.{machine_in}
use Rattle.lines.specs.Terms.{has_term}

-- a bit for each formula that there can be, in w words: whether it is needed, and whether negated
pub record Demanded (d : Demands) (w : ℕ) (needed negated : List ℕ) : Type 0 where
  pub need : (q : ℕ) → q < 32 * w → bit_at needed q ≡ cond (d.need q) 1 0
  pub negate : (q : ℕ) → q < 32 * w → bit_at negated q ≡ cond (d.negated q) 1 0

-- what formula j demands is added, if it is needed, and how many lines it takes
pub record Passed (r : Refined) (j : ℕ) (d : Demands) (needed' negated' : List ℕ) (lines : ℕ) : Type 0 where
  pub bits : Demanded (passed_on (machine_in r) (birth_at r.births.now j) (births_of r.births.now j) d) r.answers.width needed' negated'
  pub size : lines ≡ cond (d.need j) (lines_for (count (has_term r j) j) (d.negated j)) 0

-- so it is whatever was demanded before
abbrev pub Passes : Refined → ℕ → List ℕ → List ℕ → List ℕ → List ℕ → ℕ → Type 0
Passes r j needed negated needed' negated' lines = (d : Demands) → Demanded d r.answers.width needed negated → Passed r j d needed' negated' lines

-- all that is demanded where formula j is wanted, negated if n says so
abbrev pub wanted_in : Refined → ℕ → Bool → Demands
wanted_in r j n = demands (machine_in r) (births (machine_in r)) (demand_one j n)

-- how many lines tell the oldest i formulas, as far as they are needed
abbrev pub lines_up_to : Refined → Demands → ℕ → ℕ
lines_up_to r d i = length (tell (machine_in r) d (births_of r.births.now i)).lines

-- down to formula i: what is demanded so far, and how many lines that takes
pub record Marking (r : Refined) (all : Demands) (i : ℕ) (needed negated : List ℕ) (lines : ℕ) : Type 0 where
  pub d : Demands
  pub rest : all ≡ demands (machine_in r) (births_of r.births.now i) d
  pub bits : Demanded d r.answers.width needed negated
  pub size : lines + lines_up_to r all i ≡ length (tell (machine_in r) all (births (machine_in r))).lines + 1

-- all that is needed is marked, and how many lines tell it
pub record Marked (r : Refined) (all : Demands) (needed negated : List ℕ) (lines : ℕ) : Type 0 where
  pub bits : Demanded all r.answers.width needed negated
  pub size : lines ≡ length (tell (machine_in r) all (births (machine_in r))).lines
