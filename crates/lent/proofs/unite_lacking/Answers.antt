use Rattle.std.proofs.Common.{arith}
use Rattle.lent.proofs.Ones.{lacking_all}
use Rattle.lent.proofs.unite_lacking.Goals as goal

pub returns : goal.returns
returns c = lacking_all c.args.words.now c.args.mask.now c.args.row.now c.loop-i.words c.requires.words c.requires.row (omega arith) (λ i h. c.loop-i.invariant.0 i (omega arith))
