use Rattle.formulas.specs.Marks.{Agreeing}
use Rattle.formulas.proofs.answers.Answers.mark_agreeing.Given as goal

-- the states below v are marked
abbrev pub invariant-loop-v : goal.invariant-loop-v
invariant-loop-v l = Agreeing l.self.rows.now l.self.width l.reach.0 l.mask.words.now l.v l.agree
