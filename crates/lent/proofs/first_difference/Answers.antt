use Rattle.std.proofs.Common.{rules, arith}
use Rattle.std.proofs.iter.runs.Made.{chains}
use Rattle.lent.proofs.Bits.{first_within, first_in_word}
use Rattle.lent.proofs.first_difference.Goals as goal

-- the first word with a difference
pub returns-clause-first : goal.returns-clause-first
returns-clause-first c =
    first_in_word c.args.xs.now c.args.ys.now c.in_ok-i.i (omega (arith, c.in_ok-i.ensures.bound)) (omega (arith, c.type_inv.xs c.in_ok-i.i)) (omega (arith, c.type_inv.ys c.in_ok-i.i))
    (search (rules, chains)) (search (rules, chains))

pub returns-clause-within : goal.returns-clause-within
returns-clause-within c =
    first_within c.args.xs.now c.args.ys.now c.in_ok-i.i (omega (arith, c.in_ok-i.ensures.bound)) (omega (arith, c.type_inv.xs c.in_ok-i.i)) (omega (arith, c.type_inv.ys c.in_ok-i.i))
    (search (rules, chains))
