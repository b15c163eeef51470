use Rattle.std.proofs.Common.{◌≡◌, ◌≤◌, length, drop}
use Rattle.lts.specs.Decoding.{transitions_of}
use Rattle.formulas.specs.Marks.{Holding}
use Rattle.formulas.proofs.hold.mark_holding.Given as goal

-- the transitions before this one have marked their sources
abbrev pub invariant-loop-t : goal.invariant-loop-t
invariant-loop-t l =
    (goal.iterator-loop-t).can_next l.t-iterator × (goal.iterator-loop-t).is_finite l.t-iterator
    × (length l.yielded ≤ length l.system.next.now)
    × (transitions_of l.t-iterator.words.now ≡ drop (length l.yielded) (transitions_of l.system.words.now))
    × Holding l.system.words.now l.fn.agree l.fn.label (length l.yielded) l.holds
