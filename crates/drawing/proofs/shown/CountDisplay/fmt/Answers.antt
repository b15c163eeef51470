use Rattle.std.proofs.Output.{has_written_of_eq}
use Rattle.drawing.proofs.Grouping.{grouped_written}
use Rattle.drawing.proofs.shown.CountDisplay.fmt.Goals as goal

pub returns-clause-writes : goal.returns-clause-writes
returns-clause-writes g c = λ p ok.
    has_written_of_eq _ _ _ _ _ (grouped_written c.args.self.now.0 c.laid_out.ensures c.if-n-lt1000.false c.if-n-ge1000000.false) (c.write-2.ensures.writes p ok)
