use Rattle.formulas.specs.Marks.{Extended}
use Rattle.formulas.proofs.extend.extend_rows.Given as goal

-- the rows of the states below s are extended
abbrev pub invariant-loop-s : goal.invariant-loop-s
invariant-loop-s l = Extended l.initial.rows l.holds l.w l.position l.s l.rows
