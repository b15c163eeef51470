-- Sets of labels from 0 to 63, as the bits of two words each.
use Rattle.std.specs.Prelude.{ℕ, ◌+◌, ◌*◌, List}
use Rattle.lent.specs.Bits.{bit_at}

-- label a in set b
abbrev pub in_set : List ℕ → ℕ → ℕ → ℕ
in_set sets b a = bit_at sets (64 * b + a)
