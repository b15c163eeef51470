use Rattle.formulas.proofs.Writing.{births_written}
use Rattle.formulas.proofs.birth.Birth.write.Goals as goal

pub returns : goal.returns
returns c = births_written c.args.births.now c.args.count c.args.self.level c.args.self.label c.args.self.reach c.args.self.lack c.requires
