use Rattle.std.proofs.Common.{◌≡◌, map, length, string_bytes}
use Rattle.std.specs.Slice.Iter.{iter_rest}
use Rattle.query.specs.Chosen.{chosen, default}
use Rattle.query.proofs.options.parse_options.Given as goal

abbrev pub invariant-loop-option : goal.invariant-loop-option
invariant-loop-option l = chosen l.options (map string_bytes (iter_rest l.rest)) ≡ chosen default (map string_bytes l.args)

abbrev pub decreases-loop-option : goal.decreases-loop-option
decreases-loop-option l = length (iter_rest l.rest)
