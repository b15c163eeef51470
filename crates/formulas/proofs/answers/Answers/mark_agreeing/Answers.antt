use Rattle.std.proofs.Common.{arith}
use Rattle.formulas.proofs.Extending.{agreeing_more}
use Rattle.formulas.proofs.answers.Answers.mark_agreeing.Goals as goal

pub loop-v-preserved : goal.loop-v-preserved
loop-v-preserved c =
    agreeing_more c.args.self.rows.now c.of-mask.result.words.now c.loop-v.agree c.args.self.width c.args.reach.0 c.loop-v.v c.agreement.result
    (omega arith) c.loop-v.invariant c.agreement.ensures
