use Rattle.std.proofs.Common.{◌+◌, ◌-◌, ◌*◌, refl, ◌∙◌}
use Rattle.formulas.proofs.Extending.{row_set, part_long}
use Rattle.formulas.proofs.extend.extend_row.Goals as goal

pub returns-then-holds-s-eq1 : goal.returns-then-holds-s-eq1
returns-then-holds-s-eq1 c =
    row_set c.args.rows.now c.args.holds.now c.set_bit.new.words c.args.w c.args.position c.args.s (c.args.s * c.args.w + c.args.w - c.args.s * c.args.w)
    refl c.requires.row c.if-holds-s-eq1.true (c.set_bit.auto.words ∙ part_long c.args.rows.now c.args.w c.args.s c.requires.row) c.set_bit.ensures
