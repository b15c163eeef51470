use Rattle.std.proofs.Common.{sym, ◌∙◌, rules, tests}
use Rattle.std.proofs.lemmas.Iterator.{YieldsList-from_slice}
use Rattle.std.proofs.lemmas.Iterator.Search.{any_from_yields_List}
use Rattle.drawing.specs.Arrows.{leads}
use Rattle.drawing.proofs.Leading.{presses_any}
use Rattle.drawing.proofs.plan.Drawing.can_press.Goals as goal

pub returns : goal.returns
returns c =
    let rs = c.args.self.now.arrows.items in
    any_from_yields_List (leads c.args.state c.args.button) _ _ _ c.any.ensures.ran (YieldsList-from_slice rs cc) (λ x r q k. search (rules, tests))
    ∙ sym (presses_any c.args.state c.args.button rs)
