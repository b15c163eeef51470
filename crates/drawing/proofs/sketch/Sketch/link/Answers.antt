use Rattle.names.specs.Numbered.{names}
use Rattle.std.proofs.Common.{vec_items}
use Rattle.drawing.specs.Code.{drafted}
use Rattle.drawing.proofs.Drafts.{linked}
use Rattle.drawing.proofs.sketch.Sketch.link.Goals as goal

pub returns : goal.returns
returns c =
    let mid = c.note.new.self in
    let last = c.note-2.new.self in
    let by = c.note-3.new.self in
    let a = rw c.in_ok-from.was at c.note.ensures in
    let b = rw c.in_ok-to.was at c.note-2.ensures in
    let d = rw c.in_ok-by.was at c.note-3.ensures in
    let pushed = rw c.in_ok-push.was at c.push.ensures.items in
    linked (drafted c.args.self.now) c.args.source.now c.args.button.now c.args.target.now (names mid) (names last) (names by)
    c.in_ok-from.from c.in_ok-to.to c.in_ok-by.by (vec_items c.push.new.self)
    a.now_names a.number b.now_names b.number d.now_names d.number pushed
