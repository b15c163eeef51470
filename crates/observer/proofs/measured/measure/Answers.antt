use Rattle.std.proofs.Common.{subst}
use Rattle.observer.specs.Read.{ReadSays}
use Rattle.observer.proofs.Askable.{askable_of}
use Rattle.observer.proofs.measured.measure.Goals as goal

pub refine-refined-requires-clause-askable : goal.refine-refined-requires-clause-askable
refine-refined-requires-clause-askable c =
    askable_of c.args.words.now c.in_ok-asked.asked (subst (ReadSays c.args.words.now) c.in_ok-asked.ensures.ok_part c.read.ensures.says)
