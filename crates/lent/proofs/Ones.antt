-- Counting bits, and uniting them.
use Rattle.std.proofs.Common.{◌≡◌, ℕ, zero, suc, ◌+◌, ◌-◌, ◌*◌, ◌/◌, ◌%◌, ◌^◌, ◌<◌, ◌≤◌, min, max, List, length, get_or, take, sum_by, sym, refl, ap, ◌∙◌, inl, inr, add-zero, add-suc, pow-suc, arith}
use lib.Bits.{bit_and, bit_or, bit_xor}
use lib.Count.{ones, ones_in, ones_step}
use Rattle.std.proofs.lemmas.Bool.{cases_lt}
use Rattle.std.proofs.Math.Seq.{take-length}
use Rattle.std.proofs.lemmas.List.Sums.{sum_by_more}
use Rattle.lent.specs.Bits.{bit, bit_at, bits_set}
use Rattle.lent.proofs.Bits.{bit_first, bit_next, bit-bit_and, bit-bit_or, bit-bit_xor, bit_at_word, bit_at_past}

-- how many of the first k bits of a word are set
unfoldable bits_in : ℕ → ℕ → ℕ
bits_in n zero = 0
bits_in n (suc k) = bit n k + bits_in n k

-- the lowest, and those of the half
bits_half : (n k : ℕ) → bits_in n (suc k) ≡ n % 2 + bits_in (n / 2) k
unfolding bits_in
bits_half n zero = omega (arith, bit_first n)
bits_half n (suc k) = omega (arith, bits_half n k, bit_next n k)

-- `count_ones` counts the bits
ones_bits : (k n : ℕ) → n < 2 ^ k → ones n ≡ bits_in n k
unfolding ones ones_in bits_in
ones_bits zero n h = let z : n ≡ 0 = omega arith in ap ones z
ones_bits (suc k) n h = ones_step n ∙ ap (λ x. n % 2 + x) (ones_bits k (n / 2) (omega (arith, pow-suc 2 k))) ∙ sym (bits_half n k)

-- the bits of words up to bit k of word i
bits_up : (ws : List ℕ) (i k : ℕ) → k ≤ 32 → bits_set ws (32 * i + k) ≡ bits_in (get_or ws i 0) k + bits_set ws (32 * i)
unfolding bits_in
bits_up ws i zero h = ap (bits_set ws) (add-zero (32 * i)) ∙ omega arith
bits_up ws i (suc k) h = ap (bits_set ws) (add-suc (32 * i) k) ∙ omega (arith, bits_up ws i k (omega arith), bit_at_word ws i k (omega arith))

-- one word more is counted
count_more : (ws : List ℕ) (i c : ℕ) → get_or ws i 0 < 2 ^ 32 → c ≡ bits_set ws (32 * i) → c + ones (get_or ws i 0) ≡ bits_set ws (32 * (i + 1))
count_more ws i c h e =
    let n : 32 * (i + 1) ≡ 32 * i + 32 = omega arith in
    let up : bits_set ws (32 * (i + 1)) ≡ bits_in (get_or ws i 0) 32 + bits_set ws (32 * i) = ap (bits_set ws) n ∙ bits_up ws i 32 (omega arith) in
    omega (arith, ones_bits 32 (get_or ws i 0) h)

-- so are all the words up to word n
counted_up : (ws : List ℕ) → ((k : ℕ) → get_or ws k 0 < 2 ^ 32) → (n : ℕ) → n ≤ length ws → sum_by ones (take n ws) ≡ bits_set ws (32 * n)
counted_up ws fits zero h = refl
counted_up ws fits (suc n) h =
    let e : suc n ≡ n + 1 = omega arith in
    ap (λ m. sum_by ones (take m ws)) e ∙ sum_by_more ones ws n 0 (omega arith)
    ∙ count_more ws n (sum_by ones (take n ws)) (fits n) (counted_up ws fits n (omega arith)) ∙ ap (λ m. bits_set ws (32 * m)) (sym e)

-- and all words
pub counted : (ws : List ℕ) → ((k : ℕ) → get_or ws k 0 < 2 ^ 32) → sum_by ones ws ≡ bits_set ws (32 * length ws)
counted ws fits = ap (sum_by ones) (sym (take-length ws)) ∙ counted_up ws fits (length ws) (omega arith)

-- no more bits are set than there are
pub bits_most : (ws : List ℕ) (n : ℕ) → bits_set ws n ≤ n
bits_most ws zero = omega arith
bits_most ws (suc n) = omega (arith, bits_most ws n)

-- so their number fits
pub counted_fits : (ws : List ℕ) → ((k : ℕ) → get_or ws k 0 < 2 ^ 32) → 32 * length ws < 2 ^ 64 → sum_by ones ws < 2 ^ 64
counted_fits ws fits h = omega (arith, counted ws fits, bits_most ws (32 * length ws))

-- `a | m & (m ^ r)`
pub lacking_bit : (a m r k : ℕ) → bit (bit_or a (bit_and m (bit_xor m r))) k ≡ max (bit a k) (min (bit m k) (1 - bit r k))
lacking_bit a m r k = omega (arith, bit-bit_or a (bit_and m (bit_xor m r)) k, bit-bit_and m (bit_xor m r) k, bit-bit_xor m r k)

-- a bit past the end is 0
pub past_end : (ws : List ℕ) (q n : ℕ) → length ws ≡ n → n ≤ q / 32 → bit_at ws q ≡ 0
past_end ws q n e h = bit_at_past ws q (omega arith)

-- every word took on those of the mask
pub united_all : (old mask new : List ℕ) → length old ≡ length mask → length new ≡ length old → ((i : ℕ) → i < length mask → get_or new i 0 ≡ bit_or (get_or old i 0) (get_or mask i 0))
    → (q : ℕ) → bit_at new q ≡ max (bit_at old q) (bit_at mask q)
united_all old mask new e n h q = elim (cases_lt (q / 32) (length mask)) [
  | inl l ↦ ap (λ x. bit x (q % 32)) (h (q / 32) l) ∙ bit-bit_or (get_or old (q / 32) 0) (get_or mask (q / 32) 0) (q % 32)
  | inr l ↦ omega (arith, past_end new q (length mask) (n ∙ e) l, past_end old q (length mask) e l, past_end mask q (length mask) refl l)
]

-- every word took on those of the mask that the row lacks
pub lacking_all : (old mask row new : List ℕ) → length old ≡ length mask → length row ≡ length mask → length new ≡ length old
    → ((i : ℕ) → i < length mask → get_or new i 0 ≡ bit_or (get_or old i 0) (bit_and (get_or mask i 0) (bit_xor (get_or mask i 0) (get_or row i 0))))
    → (q : ℕ) → bit_at new q ≡ max (bit_at old q) (min (bit_at mask q) (1 - bit_at row q))
lacking_all old mask row new e r n h q = elim (cases_lt (q / 32) (length mask)) [
  | inl l ↦ ap (λ x. bit x (q % 32)) (h (q / 32) l) ∙ lacking_bit (get_or old (q / 32) 0) (get_or mask (q / 32) 0) (get_or row (q / 32) 0) (q % 32)
  | inr l ↦ omega (arith, past_end new q (length mask) (n ∙ e) l, past_end old q (length mask) e l, past_end mask q (length mask) refl l)
]
