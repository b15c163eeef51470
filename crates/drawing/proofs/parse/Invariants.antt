use Rattle.std.proofs.Common.{◌≡◌, length}
use Rattle.drawing.proofs.Followed.{Sofar}
use Rattle.drawing.proofs.parse.Given as goal

abbrev pub invariant-loop-i : goal.invariant-loop-i
invariant-loop-i l = Sofar l.text (length l.yielded) l.sketch × (l.last ≡ length l.yielded)
