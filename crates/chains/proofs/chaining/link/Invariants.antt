use Rattle.std.proofs.Common.{length}
use Rattle.chains.specs.System.{Linked}
use Rattle.chains.proofs.chaining.link.Given as goal

abbrev pub invariant-loop-j : goal.invariant-loop-j
invariant-loop-j l = Linked l.words (length l.next) l.j l.first l.next
