use Rattle.std.proofs.Common.{◌≡◌, ◌*◌, ℕ, List, length, sym, ap, ◌∙◌, subst, arith}
use Rattle.theory.specs.Births.{births}
use Rattle.lent.specs.Bits.{FirstDifference}
use Rattle.chains.specs.System.{machine_of}
use Rattle.formulas.specs.Link.{row_of}
use Rattle.formulas.proofs.Linking.{row_length}
use Rattle.refine.specs.Refined.{FirstTelling}
use Rattle.refine.proofs.Facts.{length_births}
use Rattle.refine.proofs.Telling.{closed_in, row_inside, told, untold}
use Rattle.refine.proofs.parted.Parted.first_telling.Goals as goal

-- a difference of the answers is one of the rows
rows_of : (rows xs ys : List ℕ) (w s t q : ℕ) → xs ≡ row_of rows w s → ys ≡ row_of rows w t → FirstDifference xs ys q → FirstDifference (row_of rows w s) (row_of rows w t) q
rows_of rows xs ys w s t q e f d = subst (λ zs. FirstDifference (row_of rows w s) zs q) f (subst (λ zs. FirstDifference zs ys q) e d)

pub row-requires : goal.row-requires
row-requires c = row_inside _ _ _ _ _ c.args.s.0 c.args.self.done.link c.requires.one

pub row-requires-2 : goal.row-requires-2
row-requires-2 c = row_inside _ _ _ _ _ c.args.t.0 c.args.self.done.link c.requires.other

pub first_difference-requires : goal.first_difference-requires
first_difference-requires c =
    let self = c.args.self in
    let long = self.done.link.long in
    let one = ap length c.row.ensures ∙ row_length self.rows.now self.states self.width c.args.s.0 long c.requires.one in
    let other = ap length c.row-2.ensures ∙ row_length self.rows.now self.states self.width c.args.t.0 long c.requires.other in
    record { same = one ∙ sym other; fits = omega (arith, one, self.narrow) }

pub returns-in_err-first : goal.returns-in_err-first
returns-in_err-first c =
    let self = c.args.self in
    let m = machine_of self.states self.words.now in
    let link = self.done.link in
    let rows = rows_of self.rows.now _ _ self.width c.args.s.0 c.args.t.0 (32 * length c.row.result.now) c.row.ensures c.row-2.ensures c.in_err-first.ensures.first in
    let long = ap length c.row.ensures ∙ row_length self.rows.now self.states self.width c.args.s.0 link.long c.requires.one in
    subst (FirstTelling m self.counts.formulas c.args.s.0 c.args.t.0) (sym c.from_residual.ensures)
    (untold m (closed_in _ _ self.askable) self.width self.rows.now self.leads.now link c.args.s.0 c.args.t.0 c.requires.one c.requires.other (32 * length c.row.result.now) rows (omega (arith, link.room, long)))

pub returns-then-first-self : goal.returns-then-first-self
returns-then-first-self c =
    let self = c.args.self in
    let m = machine_of self.states self.words.now in
    let link = self.done.link in
    let count : self.counts.formulas ≡ length (births m) = sym (length_births self.births.now self.counts.formulas) ∙ ap length self.done.born in
    let rows = rows_of self.rows.now _ _ self.width c.args.s.0 c.args.t.0 c.in_ok-first.first c.row.ensures c.row-2.ensures c.in_ok-first.ensures.first in
    let apart = told m (closed_in _ _ self.askable) self.width self.rows.now self.leads.now link c.args.s.0 c.args.t.0 c.requires.one c.requires.other c.in_ok-first.first rows (omega (arith, count, c.if-first-self.true)) in
    record { within = c.if-first-self.true; apart = apart.0; is = apart.1 }

pub returns : goal.returns
returns c =
    let self = c.args.self in
    let m = machine_of self.states self.words.now in
    let link = self.done.link in
    let count : self.counts.formulas ≡ length (births m) = sym (length_births self.births.now self.counts.formulas) ∙ ap length self.done.born in
    let rows = rows_of self.rows.now _ _ self.width c.args.s.0 c.args.t.0 c.in_ok-first.first c.row.ensures c.row-2.ensures c.in_ok-first.ensures.first in
    untold m (closed_in _ _ self.askable) self.width self.rows.now self.leads.now link c.args.s.0 c.args.t.0 c.requires.one c.requires.other c.in_ok-first.first rows (omega (arith, count, c.if-first-self.false))
