-- Words as rows of bits, 32 to a word.
use Rattle.std.specs.Prelude.{◌≡◌, ℕ, zero, suc, ◌+◌, ◌*◌, ◌/◌, ◌%◌, ◌^◌, ◌<◌, ◌≤◌, List, length, ◌≢◌, slice_index}

-- bit k of a word
abbrev pub bit : ℕ → ℕ → ℕ
bit n k = n / 2 ^ k % 2

-- bit p of the words; past their end it is 0
abbrev pub bit_at : List ℕ → ℕ → ℕ
bit_at ws p = bit (slice_index ws (p / 32)) (p % 32)

-- how many of the first n bits are set
abbrev pub bits_set : List ℕ → ℕ → ℕ
bits_set ws zero = 0
bits_set ws (suc n) = bit_at ws n + bits_set ws n

-- j is the first bit in which two rows differ, or as many as there are bits
pub record FirstDifference (xs ys : List ℕ) (j : ℕ) : Type 0 where
  pub within : j ≤ 32 * length xs
  pub differs : j < 32 * length xs → bit_at xs j ≢ bit_at ys j
  pub before : (i : ℕ) → i < j → bit_at xs i ≡ bit_at ys i

-- two rows have the same bits where the mask has one
abbrev pub Agree : List ℕ → List ℕ → List ℕ → Type 0
Agree xs ys mask = (j : ℕ) → j < 32 * length mask → bit_at mask j ≡ 1 → bit_at xs j ≡ bit_at ys j
