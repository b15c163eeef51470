use Rattle.std.proofs.Common.{◌≡◌, ◌+◌, ◌-◌, ◌<◌, eqb, length, get_or, sym, ap, subst, add-one, arith}
use Rattle.std.proofs.lemmas.List.{get_or-take, length-take}
use Rattle.theory.specs.Told.{term_line}
use Rattle.lent.specs.Bits.{bit_at}
use Rattle.lines.specs.Joins.{Appends, BodyIs, TermJoins, body_by}
use Rattle.lines.proofs.Appending.{joined_grows}
use Rattle.lines.proofs.joining.join_terms.Goals as goal

pub join_term-body-requires : goal.join_term-body-requires
join_term-body-requires c =
    let mask = c.args.mask.now in
    let reach = c.args.reach.now in
    let places = c.args.places.now in
    let i = c.loop-i.i in
    let below : i < c.args.j = omega (arith, c.loop-i-test.true, length-take (c.args.j - 0) places, c.requires.places) in
    let there = get_or-take (c.args.j - 0) places i 0 (omega arith) in
    let whole : i + (c.args.j - i) ≡ c.args.j = omega arith in
    let grows = joined_grows (λ i. eqb (bit_at mask i) 1) (λ i. term_line (eqb (bit_at reach i) 1) (get_or places i 0)) c.args.next i (c.args.j - i) in
    let same = ap (λ k. length (body_by mask reach places c.args.next k).ands) whole in
    record {
      line = λ t. omega (arith, there, c.requires.line i below t);
      room = omega (arith, c.requires.room, c.loop-i.invariant.0.next);
      fits = omega (arith, c.requires.fits, c.loop-i.invariant.0.next);
    }

pub loop-i-preserved : goal.loop-i-preserved
loop-i-preserved c =
    let mask = c.args.mask.now in
    let reach = c.args.reach.now in
    let places = c.args.places.now in
    let i = c.loop-i.i in
    let below : i < c.args.j = omega (arith, c.loop-i-test.true, length-take (c.args.j - 0) places, c.requires.places) in
    let more = subst (λ p. TermJoins mask reach i p c.loop-i.body c.loop-i.lines c.join_term-body.result c.join_term-body.new.lines) (get_or-take (c.args.j - 0) places i 0 (omega arith)) c.join_term-body.ensures
    c.args.next (body_by mask reach places c.args.next i) c.loop-i.invariant.0 in
    subst (λ k. BodyIs c.join_term-body.result c.args.next (body_by mask reach places c.args.next k) × Appends c.args.lines.now c.args.next (body_by mask reach places c.args.next k).ands c.join_term-body.new.lines)
    (sym (add-one i)) (more.is, more.wrote c.args.lines.now c.loop-i.invariant.1)
