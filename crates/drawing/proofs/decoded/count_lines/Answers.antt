use Rattle.std.proofs.Common.{◌+◌, ap, sym, ◌∙◌, rules}
use Rattle.drawing.proofs.Lined.{lines_counted}
use Rattle.drawing.proofs.decoded.count_lines.Goals as goal

pub returns : goal.returns
returns c = ap (λ n. n + 1) (search rules) ∙ sym (lines_counted c.args.bytes.now)
