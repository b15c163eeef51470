use Rattle.lines.specs.Marked.{Marking, wanted_in}
use Rattle.lines.proofs.marking.mark.Given as goal

-- formulas from i on have passed their demands on
abbrev pub invariant-loop-i : goal.invariant-loop-i
invariant-loop-i l = Marking l.refined (wanted_in l.refined l.j l.negate) l.i l.needed l.negated l.lines
