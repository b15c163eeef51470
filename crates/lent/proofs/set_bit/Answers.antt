use Rattle.std.proofs.Common.{◌≡◌, ◌*◌, ◌%◌, ◌^◌, arith}
use Rattle.std.proofs.lemmas.Nat.{one_shl}
use Rattle.lent.proofs.Bits.{bit_at_set}
use Rattle.lent.proofs.set_bit.Goals as goal

-- `1 << k` is 2 ^ k, and that bit is set
pub returns : goal.returns
returns c q =
    let e : (1 * 2 ^ (c.args.p % 32)) % 2 ^ 32 ≡ 2 ^ (c.args.p % 32) = one_shl (c.args.p % 32) 32 (omega arith) in
    rw e (bit_at_set c.args.words.now c.args.p c.requires q)
