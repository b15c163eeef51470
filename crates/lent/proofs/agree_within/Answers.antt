use Rattle.std.proofs.Common.{ℕ, ◌<◌, ◌≤◌, get_or, rules, arith}
use Rattle.std.proofs.lemmas.Bool.{true_from_ne_false}
use Rattle.std.proofs.iter.runs.Sources.{ranges}
use lib.Bits.{bit_and, bit_xor}
use Rattle.lent.proofs.Bits.{agree_between, agree_not}
use Rattle.lent.proofs.agree_within.Goals as goal

pub returns : goal.returns
returns c = (
  λ e. agree_between c.args.xs.now c.args.ys.now c.args.mask.words.now c.args.mask.from c.args.mask.to c.args.mask.before c.args.mask.after (search (rules, ranges)),
  λ h. true_from_ne_false c.all.result (λ e.
      let some : (k : ℕ) × (c.args.mask.from ≤ k) × (k < c.args.mask.to) × (0 < bit_and (bit_xor (get_or c.args.xs.now k 0) (get_or c.args.ys.now k 0)) (get_or c.args.mask.words.now k 0)) = search (rules, ranges) in
      agree_not c.args.xs.now c.args.ys.now c.args.mask.words.now some.0
      (omega (arith, c.args.mask.within)) (omega (arith, c.type_inv.xs some.0)) (omega (arith, c.type_inv.ys some.0)) some.3 h),
)
