use Rattle.std.proofs.Common.{ℕ, ◌<◌, length, get_or}
use Rattle.chains.specs.System.{source_at}
use Rattle.chains.specs.Matching.{Represented, LeadsOn}
use Rattle.chains.proofs.representing.represent.Given as goal

-- the links of the states below s lead on
abbrev pub invariant-loop-s : goal.invariant-loop-s
invariant-loop-s l =
    Represented l.system.words.now l.old l.system.first.now l.links
    × ((j : ℕ) → j < length l.system.next.now → source_at l.system.words.now j < l.s → LeadsOn l.system.words.now l.old (length l.system.next.now) j (get_or l.links j 0))
