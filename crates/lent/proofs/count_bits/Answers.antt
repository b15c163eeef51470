use Rattle.std.proofs.Common.{◌≡◌, ◌<◌, ◌^◌, rules, arith, sum_by, ◌∙◌}
use lib.Count.{ones}
use Rattle.std.proofs.iter.runs.Made.{chains}
use Rattle.lent.proofs.Ones.{counted, counted_fits}
use Rattle.lent.proofs.count_bits.Goals as goal

pub sum-requires-clause-fits : goal.sum-requires-clause-fits
sum-requires-clause-fits c =
    let fits : sum_by ones c.args.words.now < 2 ^ 64 = counted_fits c.args.words.now (λ k. omega (arith, c.type_inv.words k)) c.requires in search (rules, chains)

pub returns : goal.returns
returns c =
    let e : c.sum.result ≡ sum_by ones c.args.words.now = search (rules, chains) in e ∙ counted c.args.words.now (λ k. omega (arith, c.type_inv.words k))
