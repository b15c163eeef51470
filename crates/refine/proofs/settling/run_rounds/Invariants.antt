use Rattle.std.proofs.Common.{◌-◌, length}
use Rattle.chains.specs.System.{machine_of}
use Rattle.refine.specs.Rounds.{After}
use Rattle.refine.proofs.settling.run_rounds.Given as goal

abbrev pub invariant-loop-count : goal.invariant-loop-count
invariant-loop-count l = After (machine_of (length l.system.first.now) l.system.words.now) l.number l.width l.births l.count l.rows l.leads

abbrev pub decreases-loop-count : goal.decreases-loop-count
decreases-loop-count l = length l.system.first.now - l.count
