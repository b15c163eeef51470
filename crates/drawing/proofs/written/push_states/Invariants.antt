use Rattle.std.proofs.Common.{◌≡◌, ◌++◌, map, take, string_bytes}
use Rattle.std.specs.List.{flat_map}
use Rattle.script.specs.Grammar.{state}
use Rattle.drawing.specs.Written.{line_of}
use Rattle.drawing.proofs.written.push_states.Given as goal

abbrev pub invariant-loop-name : goal.invariant-loop-name
invariant-loop-name l = string_bytes l.out ≡ string_bytes l.initial.out ++ flat_map line_of (map state (map string_bytes (take l.name-index l.name-items)))
