use Rattle.std.proofs.Common.{◌++◌, map, string_bytes, ap, ◌∙◌}
use Rattle.std.specs.List.{flat_map}
use Rattle.std.specs.Option.{option_to_list}
use Rattle.script.specs.Grammar.{machine, start}
use Rattle.drawing.specs.Code.{planned}
use Rattle.drawing.specs.Written.{line_of}
use Rattle.drawing.proofs.Wording.{pieces}
use Rattle.drawing.proofs.print.Goals as goal

pub returns-clause-bytes : goal.returns-clause-bytes
returns-clause-bytes c =
    pieces (planned c.args.drawing.now) (string_bytes c.new-out.result) (string_bytes c.push_title.new.out) (string_bytes c.push_line.new.out) (string_bytes c.push_states.new.out) (string_bytes c.push_arrows.new.out)
    c.new-out.ensures.bytes
    (c.in_ok-push_title.ensures ∙ ap (λ o. string_bytes c.new-out.result ++ flat_map line_of (map machine (option_to_list o))) c.title.ensures)
    (c.in_ok-push_line.ensures ∙ ap (λ n. string_bytes c.push_title.new.out ++ line_of (start n)) c.name_at.ensures)
    c.in_ok-push_states.ensures c.in_ok-push_arrows.ensures
