use Rattle.std.proofs.Common.{map, take, string_bytes}
use Rattle.names.specs.Numbered.{names}
use Rattle.beside.specs.Asks.{Noting}
use Rattle.beside.proofs.Labelled.note.Given as goal

abbrev pub invariant-loop-button : goal.invariant-loop-button
invariant-loop-button l = Noting (names l.fn.all) (map string_bytes (take l.button-index l.button-items)) (names l.all) l.labels.items
