use Rattle.lts.proofs.Chocolate.{told_apart}
use Rattle.lts.proofs.museum.depth.Goals as goal

pub returns : goal.returns
returns c = told_apart
