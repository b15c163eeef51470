use Rattle.std.proofs.Common.{refl}
use Rattle.lines.proofs.Appending.{join_more}
use Rattle.lines.proofs.joining.join.Goals as goal

pub returns : goal.returns
returns c = join_more c.args.term.0 c.args.body c.args.lines.now _ c.write_line.new.lines c.if-at-eq0.false c.write_line.ensures refl refl
