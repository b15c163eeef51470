use Rattle.std.proofs.Common.{◌∙◌, arith}
use Rattle.lines.specs.Written.{line_of}
use Rattle.lines.proofs.Writing.{put_written}
use Rattle.lines.proofs.line.write_line.Goals as goal

pub returns : goal.returns
returns c = put_written c.args.lines.now c.args.at _ (line_of c.args.says) c.copy_from_slice.new.self c.requires (omega arith) (c.copy_from_slice.ensures.after ∙ c.from.ensures)
