use Rattle.std.proofs.Common.{length, refl, sym, ap, subst, arith}
use Rattle.theory.specs.Births.{Birth}
use Rattle.formulas.proofs.Linking.{births_length}
use Rattle.refine.specs.Refined.{machine_in}
use Rattle.refine.specs.declared.refined.Refined.{Refined}
use Rattle.lines.specs.Progress.{all_needed}
use Rattle.lines.proofs.Counted.{tell_fits}
use Rattle.observer.specs.Compared.{DifferBy}
use Rattle.observer.proofs.Comparing.{differ_by, counted, stands}
use Rattle.observer.proofs.compared.tell_apart.Goals as goal

pub overflow_mul-needs : goal.overflow_mul-needs
overflow_mul-needs c =
    let needs = c.mark-needs.result in
    omega (arith, needs.marked.size, tell_fits needs.refined (all_needed needs))

pub returns-then-lines-needs : goal.returns-then-lines-needs
returns-then-lines-needs c =
    let r = c.args.refined in
    let many = counted r c.args.s.0 c.args.t.0 c.requires.one c.requires.other c.in-Some.formula c.in-Some.ensures c.row.result.now c.row.ensures.row c.has_bit-negate.result c.has_bit-negate.ensures c.mark-needs.result c.mark-needs.ensures.refined c.mark-needs.ensures.formula in
    let differ = differ_by r c.args.s.0 c.args.t.0 c.requires.one c.requires.other c.in-Some.formula c.in-Some.ensures c.mark-needs.result.lines many in
    (subst (λ d. DifferBy (machine_in r) c.args.s.0 c.args.t.0 d c.mark-needs.result.lines) (sym (ap (λ (b : Birth). b.level) c.birth-depth.ensures)) differ, c.if-lines-needs.true, refl)

pub tell-requires-clause-places : goal.tell-requires-clause-places
tell-requires-clause-places c =
    let r = c.args.refined in
    let same = ap (λ (x : Refined). x.counts.formulas) c.mark-needs.ensures.refined in
    omega (arith, same, births_length r.births.now r.counts.formulas, ap length r.done.born, r.done.link.room, r.narrow, c.requires.scratch, c.split_at_mut-needed.ensures.back_len, c.split_at_mut-negated.ensures.back_len, c.split_at_mut-mask.ensures.back_len)

pub returns : goal.returns
returns c =
    let r = c.args.refined in
    let many = counted r c.args.s.0 c.args.t.0 c.requires.one c.requires.other c.in-Some.formula c.in-Some.ensures c.row.result.now c.row.ensures.row c.has_bit-negate.result c.has_bit-negate.ensures c.mark-needs.result c.mark-needs.ensures.refined c.mark-needs.ensures.formula in
    let differ = differ_by r c.args.s.0 c.args.t.0 c.requires.one c.requires.other c.in-Some.formula c.in-Some.ensures c.mark-needs.result.lines many in (
      subst (λ d. DifferBy (machine_in r) c.args.s.0 c.args.t.0 d c.mark-needs.result.lines) (sym (ap (λ (b : Birth). b.level) c.birth-depth.ensures)) differ,
      stands r c.args.s.0 c.args.t.0 c.requires.one c.requires.other c.in-Some.formula c.in-Some.ensures c.row.result.now c.row.ensures.row c.has_bit-negate.result c.has_bit-negate.ensures c.mark-needs.result c.mark-needs.ensures.refined c.mark-needs.ensures.formula c.args.lines.now c.tell.new.lines c.tell.ensures,
    )
