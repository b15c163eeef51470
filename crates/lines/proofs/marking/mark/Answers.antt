use Rattle.std.proofs.Common.{◌≡◌, ◌+◌, ◌-◌, subst, arith}
use Rattle.lines.specs.Marked.{Marking, wanted_in}
use Rattle.lines.proofs.Passing.{within}
use Rattle.lines.proofs.Counted.{goes_on, ends, few}
use Rattle.lines.proofs.marking.mark.Goals as goal

pub mark_one-requires-clause-needed : goal.mark_one-requires-clause-needed
mark_one-requires-clause-needed c = omega (arith, within c.args.refined c.args.j c.requires.formula, c.requires.needed)

pub overflow_add-lines : goal.overflow_add-lines
overflow_add-lines c =
    let again = goes_on c.args.refined c.args.j c.args.negate c.loop-i.i c.loop-i-test.true (omega (arith, c.loop-i.auto.i)) c.loop-i.needed c.loop-i.negated c.pass_on-lines.new.needed c.pass_on-lines.new.negated
    c.loop-i.lines c.pass_on-lines.result c.loop-i.invariant c.pass_on-lines.ensures in
    omega (arith, few c.args.refined c.args.j c.args.negate (c.loop-i.i - 1) _ _ (c.loop-i.lines + c.pass_on-lines.result) again)

pub loop-i-preserved : goal.loop-i-preserved
loop-i-preserved c =
    goes_on c.args.refined c.args.j c.args.negate c.loop-i.i c.loop-i-test.true (omega (arith, c.loop-i.auto.i)) c.loop-i.needed c.loop-i.negated c.pass_on-lines.new.needed c.pass_on-lines.new.negated
    c.loop-i.lines c.pass_on-lines.result c.loop-i.invariant c.pass_on-lines.ensures

pub returns : goal.returns
returns c =
    let none : c.loop-i.i ≡ 0 = omega (arith, c.loop-i-test.false) in
    ends c.args.refined c.args.j c.args.negate c.loop-i.needed c.loop-i.negated c.loop-i.lines
    (subst (λ i. Marking c.args.refined (wanted_in c.args.refined c.args.j c.args.negate) i c.loop-i.needed c.loop-i.negated c.loop-i.lines) none c.loop-i.invariant)
