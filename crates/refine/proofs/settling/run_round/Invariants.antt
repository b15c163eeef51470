use Rattle.std.proofs.Common.{◌-◌, length, get_or}
use Rattle.lts.specs.Machine.{Machine}
use Rattle.theory.specs.Births.{rounds}
use Rattle.chains.specs.System.{machine_of}
use Rattle.formulas.specs.Link.{births_of, Link}
use Rattle.refine.specs.declared.round.Round.{Round}
use Rattle.refine.specs.Rounds.{Sofar, Turning}
use Rattle.refine.proofs.settling.run_round.Given as goal

abbrev machine : Round → Machine
machine r = machine_of (length r.blocks.system.first.now) r.blocks.system.words.now

abbrev pub invariant-states : goal.invariant-states
invariant-states l = Sofar (machine l.round) l.round.number l.s l.round.width l.births l.count l.rows l.leads

abbrev pub invariant-turns : goal.invariant-turns
invariant-turns l =
    Link (machine l.round) (births_of l.births l.count) l.rows l.round.width l.leads
    × Turning (machine l.round) l.round.number (rounds (machine l.round) l.round.number) l.s (births_of l.births l.count)

abbrev pub decreases-turns : goal.decreases-turns
decreases-turns l = length l.round.blocks.system.first.now - get_or l.leads l.s 0
