-- What has been told when the oldest j formulas were gone through.
use Rattle.std.specs.Prelude.{◌≡◌, ℕ, suc, ◌<◌, T, List, slice_index}
use Rattle.lts.specs.Line.{Line}
use Rattle.theory.specs.Births.{births}
use Rattle.theory.specs.Told.{Demands, Text, tell}
use Rattle.formulas.specs.Link.{births_of}
use Rattle.refine.specs.declared.refined.Refined.{Refined}
use Rattle.refine.specs.Refined.{machine_in}
use Rattle.lines.specs.declared.needs.Needs.{Needs}
use Rattle.lines.specs.Marked.{wanted_in, lines_up_to}
use Rattle.lines.specs.Written.{Written}

-- all that is demanded where the formula of n is wanted
abbrev pub all_needed : Needs → Demands
all_needed n = wanted_in n.refined n.formula n.negate

-- the text of the oldest j formulas
abbrev pub text_to : Refined → Demands → ℕ → Text
text_to r d j = tell (machine_in r) d (births_of r.births.now j)

-- the places of those that are needed
abbrev pub Placed : Refined → Demands → ℕ → List ℕ → Type 0
Placed r d j places = (i : ℕ) → i < j → T (d.need i) → slice_index places i ≡ (text_to r d j).place i

-- formula j is told too
pub record ToldOn (r : Refined) (d : Demands) (j : ℕ) (lines : List ℕ) (next' : ℕ) (places' lines' : List ℕ) : Type 0 where
  pub next : next' ≡ lines_up_to r d (suc j)
  pub placed : Placed r d (suc j) places'
  pub wrote : (before : List ℕ) → Written before (text_to r d j).lines lines → Written before (text_to r d (suc j)).lines lines'

-- the lines that tell the formula of n
abbrev pub told_by : Needs → List Line
told_by n = (tell (machine_in n.refined) (all_needed n) (births (machine_in n.refined))).lines
