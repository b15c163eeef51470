use Rattle.std.proofs.Common.{arith, ◌∙◌, string_bytes, map, take, ap}
use Rattle.std.proofs.lemmas.List.{map_more}
use Rattle.names.specs.Numbered.{names}
use Rattle.beside.proofs.Labelling.{noting_more}
use Rattle.beside.proofs.Labelled.note.Goals as goal

pub loop-button-preserved : goal.loop-button-preserved
loop-button-preserved c =
    let bs = c.list-button-items.result.now in
    let i = c.loop-button.button-index in
    let noted = rw c.in_ok-note.was at c.note.ensures in
    let more = noting_more (names c.args.all.now) (map string_bytes (take i bs)) (names c.loop-button.all) c.loop-button.labels.items c.as_str.result.now (names c.note.new.self) c.in_ok-note.field-0 c.loop-button.invariant noted.now_names noted.number in
    let text = c.as_str.ensures.value ∙ ap string_bytes c.button-item.is in
    rw (map_more string_bytes bs i c.button-item.result (omega arith), ← text, c.in_ok-push.ensures.items) more
