use Rattle.std.proofs.Common.{length}
use Rattle.chains.proofs.Adding.{bounded_by}
use Rattle.chains.proofs.blocks.Blocks.representatives.Goals as goal

pub invariant_of-result-clause-bounded : goal.invariant_of-result-clause-bounded
invariant_of-result-clause-bounded c =
    let self = c.args.self in
    bounded_by (length self.system.first.now) self.system.words.now self.system.next.now self.links.now self.system.chained self.represented self.system.bounded
