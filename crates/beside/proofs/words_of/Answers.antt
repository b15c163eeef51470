use Rattle.std.proofs.Common.{◌≡◌, length, ap, ◌∙◌, arith}
use Rattle.names.specs.Numbered.{names}
use Rattle.beside.proofs.Moves.{movable_all}
use Rattle.beside.proofs.words_of.Goals as goal

pub push_arrows-requires : goal.push_arrows-requires
push_arrows-requires c =
    let d = c.args.old.now.drawing.now in
    movable_all 0 (length (names d.states)) _ _ _ d.arrows_within (omega (arith, c.requires.states)) c.requires.first_labels c.requires.first_small

pub push_arrows-requires-2 : goal.push_arrows-requires-2
push_arrows-requires-2 c =
    let d = c.args.new.now.drawing.now in
    let shift : c.len-shift.result ≡ length (names c.args.old.now.drawing.now.states) = c.len-shift.ensures.value ∙ ap (λ n. length (names n)) c.states.ensures in
    movable_all c.len-shift.result (length (names d.states)) _ _ _ d.arrows_within (omega (arith, c.requires.states)) c.requires.second_labels c.requires.second_small
