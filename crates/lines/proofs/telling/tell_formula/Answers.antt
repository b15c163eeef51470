use Rattle.std.proofs.Common.{ℕ, List, sym, ap, ◌∙◌, subst, arith}
use Rattle.lts.specs.Line.{dia_line}
use Rattle.theory.specs.Births.{Birth}
use Rattle.formulas.specs.Link.{row_of}
use Rattle.lines.specs.Joins.{Appends, body_by, BodyIs}
use Rattle.lines.specs.Written.{LineWritten}
use Rattle.lines.proofs.Known.{reach_below}
use Rattle.lines.proofs.OneFormula.{passed_over, body_few, body_room, line_fits, told_on, all_few}
use Rattle.lines.proofs.telling.tell_formula.Goals as goal

pub returns-then-not-has_bit : goal.returns-then-not-has_bit
returns-then-not-has_bit c = passed_over _ _ _ _ _ _ c.args.needs.marked c.args.j c.requires.formula c.args.places.now c.args.lines.now c.args.next (sym c.has_bit.ensures ∙ c.if-not-has_bit.true) c.requires.next c.requires.placed

pub row-reach-requires : goal.row-reach-requires
row-reach-requires c = omega (arith, ap (λ (x : Birth). x.reach) c.birth-birth.ensures, reach_below c.args.needs.refined c.args.j c.requires.formula)

pub join_terms-body-requires : goal.join_terms-body-requires
join_terms-body-requires c =
    let a = c.args.needs.refined.answers in
    let row_is = c.row-reach.ensures.row ∙ ap (row_of a.rows.now a.width) (ap (λ (x : Birth). x.reach) c.birth-birth.ensures) in
    let needed = sym c.has_bit.ensures ∙ c.if-not-has_bit.false in
    let few = body_few _ _ _ _ _ _ c.args.needs.marked c.args.j c.requires.formula needed c.args.places.now c.find_terms.new.mask c.args.next c.requires.next c.requires.placed c.find_terms.ensures c.row-reach.result.now row_is in
    let all = all_few _ _ _ _ _ _ c.args.needs.marked c.args.j c.requires.formula in
    record {
      places = omega (arith, c.requires.places, c.requires.formula);
      line = line_fits _ _ _ _ _ _ c.args.needs.marked c.args.j c.requires.formula needed c.args.places.now c.find_terms.new.mask c.args.next c.requires.next c.requires.placed c.find_terms.ensures;
      room = omega (arith, few, c.requires.room);
      fits = omega (arith, few, all);
    }

pub overflow_cast-places : goal.overflow_cast-places
overflow_cast-places c =
    let a = c.args.needs.refined.answers in
    let row_is = c.row-reach.ensures.row ∙ ap (row_of a.rows.now a.width) (ap (λ (x : Birth). x.reach) c.birth-birth.ensures) in
    let needed = sym c.has_bit.ensures ∙ c.if-not-has_bit.false in
    let few = body_few _ _ _ _ _ _ c.args.needs.marked c.args.j c.requires.formula needed c.args.places.now c.find_terms.new.mask c.args.next c.requires.next c.requires.placed c.find_terms.ensures c.row-reach.result.now row_is in
    omega (arith, c.join_terms-body.ensures.body.next, few, all_few _ _ _ _ _ _ c.args.needs.marked c.args.j c.requires.formula)

pub write_line-requires : goal.write_line-requires
write_line-requires c =
    let a = c.args.needs.refined.answers in
    let row_is = c.row-reach.ensures.row ∙ ap (row_of a.rows.now a.width) (ap (λ (x : Birth). x.reach) c.birth-birth.ensures) in
    let needed = sym c.has_bit.ensures ∙ c.if-not-has_bit.false in
    let few = body_few _ _ _ _ _ _ c.args.needs.marked c.args.j c.requires.formula needed c.args.places.now c.find_terms.new.mask c.args.next c.requires.next c.requires.placed c.find_terms.ensures c.row-reach.result.now row_is in
    omega (arith, c.join_terms-body.ensures.body.next, few, c.requires.room)

pub tell_negation-requires : goal.tell_negation-requires
tell_negation-requires c =
    let a = c.args.needs.refined.answers in
    let row_is = c.row-reach.ensures.row ∙ ap (row_of a.rows.now a.width) (ap (λ (x : Birth). x.reach) c.birth-birth.ensures) in
    let needed = sym c.has_bit.ensures ∙ c.if-not-has_bit.false in
    let few = body_few _ _ _ _ _ _ c.args.needs.marked c.args.j c.requires.formula needed c.args.places.now c.find_terms.new.mask c.args.next c.requires.next c.requires.placed c.find_terms.ensures c.row-reach.result.now row_is in
    let room = body_room _ _ _ _ _ _ c.args.needs.marked c.args.j c.requires.formula needed c.args.places.now c.find_terms.new.mask c.args.next c.requires.next c.requires.placed c.find_terms.ensures c.row-reach.result.now row_is in
    record {
      fits = omega (arith, c.join_terms-body.ensures.body.next, few, all_few _ _ _ _ _ _ c.args.needs.marked c.args.j c.requires.formula);
      room = λ t. omega (arith, c.join_terms-body.ensures.body.next, room t, c.requires.room);
    }

pub returns : goal.returns
returns c =
    let a = c.args.needs.refined.answers in
    let row_is = c.row-reach.ensures.row ∙ ap (row_of a.rows.now a.width) (ap (λ (x : Birth). x.reach) c.birth-birth.ensures) in
    told_on _ _ _ _ _ _ c.args.needs.marked c.args.j c.requires.formula (sym c.has_bit.ensures ∙ c.if-not-has_bit.false) c.args.places.now c.find_terms.new.mask c.args.next c.requires.next c.requires.placed c.find_terms.ensures
    c.args.lines.now c.join_terms-body.new.lines c.write_line.new.lines c.tell_negation.new.lines c.join_terms-body.result c.tell_negation.result (omega (arith, c.requires.places, c.requires.formula))
    (subst (λ (w : List ℕ). BodyIs c.join_terms-body.result c.args.next (body_by c.find_terms.new.mask w c.args.places.now c.args.next c.args.j)) row_is c.join_terms-body.ensures.body)
    (subst (λ (w : List ℕ). Appends c.args.lines.now c.args.next (body_by c.find_terms.new.mask w c.args.places.now c.args.next c.args.j).ands c.join_terms-body.new.lines) row_is c.join_terms-body.ensures.lines)
    (subst (λ l. LineWritten c.join_terms-body.new.lines c.join_terms-body.result.next (dia_line l c.join_terms-body.result.at.0) c.write_line.new.lines) (ap (λ (x : Birth). x.label) c.birth-birth.ensures) c.write_line.ensures)
    c.tell_negation.ensures.lines c.tell_negation.ensures.next
