use mathlib.Core.Option.{some}
use Rattle.std.proofs.Common.{sym, ap, ◌∙◌}
use Rattle.theory.specs.Births.{birth}
use Rattle.refine.specs.Born.{birth_in}
use Rattle.refine.proofs.Nexts.{next_of_one, next_of_other}
use Rattle.refine.proofs.settling.next_birth.Goals as goal

pub returns-in-Some : goal.returns-in-Some
returns-in-Some c =
    ap some (c.birth_for.ensures ∙ ap (birth c.args.level c.args.s.0) c.transition.ensures)
    ∙ sym (next_of_one _ _ c.args.level c.args.p.0 c.args.s.0 _ c.in-Some.ensures.is)

pub returns-in_err-j : goal.returns-in_err-j
returns-in_err-j c = ap birth_in c.from_residual.ensures ∙ sym (next_of_other _ _ c.args.level c.args.p.0 c.args.s.0 _ c.in_default.ensures c.in_err-j.ensures)

pub returns : goal.returns
returns c =
    ap some (c.birth_for-2.ensures ∙ ap (birth c.args.level c.args.p.0) c.transition-2.ensures)
    ∙ sym (next_of_other _ _ c.args.level c.args.p.0 c.args.s.0 _ c.in_default.ensures c.in_ok-j.ensures.is)
