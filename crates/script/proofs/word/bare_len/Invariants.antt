use Rattle.std.proofs.Common.{◌≡◌, ◌+◌, drop}
use Rattle.script.specs.Grammar.{bare}
use Rattle.script.proofs.word.bare_len.Given as goal

abbrev pub invariant-loop-n : goal.invariant-loop-n
invariant-loop-n l = l.n + bare (drop l.n l.bytes) ≡ bare l.bytes
