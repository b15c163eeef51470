use Rattle.chains.proofs.Walking.{represented_all}
use Rattle.chains.proofs.blocks.unmatched.Goals as goal

pub invariant_of-blocks-clause-represented : goal.invariant_of-blocks-clause-represented
invariant_of-blocks-clause-represented c = represented_all _ _ _ _ c.args.system.chained
