use Rattle.std.proofs.Common.{◌≡◌, length}
use Rattle.chains.proofs.Walking.{At}
use Rattle.formulas.specs.Marks.{Terms}
use Rattle.formulas.proofs.answers.Answers.mark_terms.Given as goal

-- the terms of the transitions before this one are in the mask
abbrev pub invariant-loop-j : goal.invariant-loop-j
invariant-loop-j l =
    (goal.iterator-loop-j).can_next l.j-iterator × (goal.iterator-loop-j).is_finite l.j-iterator
    × (l.j-iterator.links.now ≡ l.self.system.next.now)
    × At l.self.system.words.now (length l.self.system.next.now) l.birth.lack l.j-iterator.at
    × Terms l.self.system.words.now l.self.rows.now l.self.width l.birth.label l.birth.reach l.birth.lack l.j-iterator.at l.mask
