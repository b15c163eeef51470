use Rattle.std.proofs.Common.{◌≡◌, length}
use Rattle.chains.proofs.Firsts.{Firsts}
use Rattle.chains.proofs.representing.link_firsts.Given as goal

abbrev pub invariant-loop-j : goal.invariant-loop-j
invariant-loop-j l =
    (goal.iterator-loop-j).can_next l.j-iterator × (goal.iterator-loop-j).is_finite l.j-iterator
    × (l.j-iterator.links.now ≡ l.blocks.system.next.now)
    × Firsts l.blocks.system.words.now l.blocks.old.now l.blocks.system.first.now (length l.blocks.system.next.now) l.fn.s.0 l.j-iterator.at l.last l.initial.sets l.sets l.initial.links l.links
