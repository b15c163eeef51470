use Rattle.std.proofs.Common.{arith}
use Rattle.lent.proofs.Ones.{united_all}
use Rattle.lent.proofs.unite.Goals as goal

pub returns : goal.returns
returns c = united_all c.args.words.now c.args.mask.now c.loop-i.words c.requires (omega arith) (λ i h. c.loop-i.invariant.0 i (omega arith))
