use Rattle.formulas.specs.Splits.{Led, Parted}
use Rattle.formulas.proofs.split.split.Given as goal

-- the states below t have their leaders, and the parts so far stand
abbrev pub invariant-loop-t : goal.invariant-loop-t
invariant-loop-t l = Led l.initial.leads l.holds l.t l.leads × Parted l.initial.leads l.holds l.t l.parts
