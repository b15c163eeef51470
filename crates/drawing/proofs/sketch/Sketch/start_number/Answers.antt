use Rattle.std.proofs.Common.{rules, ap}
use Rattle.std.specs.Option.{option_map}
use Rattle.drawing.specs.Code.{drafted}
use Rattle.drawing.specs.Model.{finish}
use Rattle.drawing.proofs.Drafts.{begins}
use Rattle.drawing.proofs.sketch.Sketch.start_number.Goals as goal

pub returns-in_default : goal.returns-in_default
unfolding finish
returns-in_default c = search rules

pub returns : goal.returns
returns c =
    let told = begins c.args.line (drafted c.args.self.now) c.in-Some.at c.in-Some.name c.number_of.result (ap (option_map (λ p. (p.0, p.1.now))) c.in-Some.is) c.number_of.ensures in
    rw (c.ok_or.ensures.value, c.at-2.ensures) told
