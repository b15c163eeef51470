use Rattle.std.proofs.Common.{arith}
use Rattle.drawing.specs.declared.plan.Drawing.{Drawing}
use Rattle.drawing.specs.Code.{planned}
use Rattle.beside.proofs.Both.{Sound, ready, encodes_both, one_label}
use Rattle.beside.proofs.question.Goals as goal

sound : (d : Drawing) → Sound (planned d)
sound d = record { arrows = d.arrows_within; start = d.start_within }

pub words_of-requires : goal.words_of-requires
words_of-requires c =
    let old = c.args.old.now in
    let new = c.args.new.now in
    let noted = rw c.new-all.ensures at c.in_ok-old.ensures.labels in
    rw (c.in_ok-old.ensures.of, c.in_ok-new.ensures.of) (ready (planned old) (planned new) (sound old) (sound new) noted c.in_ok-new.ensures.labels (grind arith) (grind arith) (grind arith))

pub returns : goal.returns
returns c =
    let old = c.args.old.now in
    let new = c.args.new.now in
    let noted = rw c.new-all.ensures at c.in_ok-old.ensures.labels in
    let words = rw (c.in_ok-old.ensures.of, c.in_ok-new.ensures.of) at c.in_ok-words_of.ensures in
    (rw words (encodes_both (planned old) (planned new) (sound old) (sound new) noted c.in_ok-new.ensures.labels (grind arith) (grind arith) (grind arith)), one_label (planned old) (planned new))
