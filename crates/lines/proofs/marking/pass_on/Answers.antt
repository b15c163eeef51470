use Rattle.std.proofs.Common.{ℕ, ◌-◌, ◌*◌, min, max, List, length, sym, ap, ◌∙◌, ap₂, arith}
use Rattle.theory.specs.Births.{Birth}
use Rattle.theory.specs.Told.{lines_for}
use Rattle.lent.specs.Bits.{bit_at}
use Rattle.lent.proofs.Ones.{bits_most}
use Rattle.formulas.specs.Link.{row_of}
use Rattle.lines.proofs.Known.{reach_below}
use Rattle.lines.proofs.Passing.{not_needed, needed_passes}
use Rattle.lines.proofs.marking.pass_on.Goals as goal

pub returns-then-not-has_bit : goal.returns-then-not-has_bit
returns-then-not-has_bit c = not_needed c.args.refined c.args.j c.requires.formula c.args.needed.now c.args.negated.now (sym c.has_bit.ensures ∙ c.if-not-has_bit.true)

pub row-requires : goal.row-requires
row-requires c = omega (arith, ap (λ (x : Birth). x.reach) c.birth.ensures, reach_below c.args.refined c.args.j c.requires.formula)

pub lines_for-requires : goal.lines_for-requires
lines_for-requires c = omega (arith, c.count_bits.ensures, bits_most c.find_terms.new.mask (32 * length c.find_terms.new.mask), c.requires.mask, c.args.refined.narrow)

pub returns : goal.returns
returns c =
    let a = c.args.refined.answers in
    let e = ap (λ (x : Birth). x.reach) c.birth.ensures in
    needed_passes c.args.refined c.args.j c.requires.formula c.args.needed.now c.args.negated.now c.find_terms.new.mask c.unite.new.words c.unite_lacking.new.words
    c.find_terms.ensures (omega (arith, c.requires.mask)) c.unite.ensures
    (λ q. c.unite_lacking.ensures q ∙ ap (λ (row : List ℕ). max (bit_at c.args.negated.now q) (min (bit_at c.find_terms.new.mask q) (1 - bit_at row q))) (c.row.ensures.row ∙ ap (row_of a.rows.now a.width) e))
    c.lines_for.result (sym c.has_bit.ensures ∙ c.if-not-has_bit.false) (c.lines_for.ensures ∙ ap₂ lines_for c.count_bits.ensures c.has_bit-2.ensures)
