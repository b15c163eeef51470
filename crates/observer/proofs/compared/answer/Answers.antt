use Rattle.std.proofs.Common.{subst}
use Rattle.chains.specs.System.{machine_of}
use Rattle.observer.specs.Compared.{ApartSays}
use Rattle.observer.specs.Read.{question}
use Rattle.observer.proofs.Askable.{askable_of}
use Rattle.observer.proofs.Comparing.{compared_says}
use Rattle.observer.proofs.compared.answer.Goals as goal

pub refine-refined-requires-clause-askable : goal.refine-refined-requires-clause-askable
refine-refined-requires-clause-askable c = askable_of c.args.words.now c.in-Some.asked c.in-Some.ensures.says

pub returns-clause-says : goal.returns-clause-says
returns-clause-says c =
    let a = c.in-Some.asked in
    let same = c.refine-refined.ensures in
    let says : _ → _ → Type 0 = λ n ws. ApartSays (machine_of n ws) a.first a.second c.args.lines.now c.tell_apart.new.lines c.tell_apart.result in
    compared_says c.args.words.now c.args.lines.now c.tell_apart.new.lines (question a) c.tell_apart.result c.in-Some.ensures.says.encoded
    (subst (λ n. says n a.transitions.now) same.states (subst (says _) same.words c.tell_apart.ensures))
