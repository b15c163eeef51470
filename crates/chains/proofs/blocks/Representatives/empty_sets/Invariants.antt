use Rattle.std.proofs.Common.{◌≡◌, length}
use Rattle.chains.specs.Matching.{Emptied}
use Rattle.chains.proofs.Walking.{At}
use Rattle.chains.proofs.blocks.Representatives.empty_sets.Given as goal

abbrev pub invariant-loop-j : goal.invariant-loop-j
invariant-loop-j l =
    (goal.iterator-loop-j).can_next l.j-iterator × (goal.iterator-loop-j).is_finite l.j-iterator
    × (l.j-iterator.links.now ≡ l.self.links.now)
    × At l.self.words.now (length l.self.links.now) l.fn.x.0 l.j-iterator.at
    × Emptied l.self.words.now l.self.old.now l.j-iterator.at l.fn.x.0 l.sets
