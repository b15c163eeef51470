use Rattle.names.proofs.Steps.{none_yet}
use Rattle.names.proofs.table.Names.new.Goals as goal

pub invariant_of-result-clause-apart : goal.invariant_of-result-clause-apart
invariant_of-result-clause-apart c = (none_yet c.new.result c.new-2.result c.new.ensures.items c.new-2.ensures.empty).apart

pub invariant_of-result-clause-agrees : goal.invariant_of-result-clause-agrees
invariant_of-result-clause-agrees c = (none_yet c.new.result c.new-2.result c.new.ensures.items c.new-2.ensures.empty).agrees
