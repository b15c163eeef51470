-- Laws of the bits of words, and of rows of words.
use Rattle.std.proofs.Common.{◌≡◌, ℕ, zero, suc, ◌+◌, ◌*◌, ◌/◌, ◌%◌, ◌^◌, ◌<◌, ◌≤◌, min, max, Bool, true, false, cond, eqb, List, length, get_or, set, ◌≢◌, sym, refl, ap, ◌∙◌, subst, ap₂, inl, inr, pow-suc, arith, get_or-set_other, get_or-set_same, shr-shr}
use native.Mathlib.Nat.{zero-div}
use borrow.Author.Numbers.{trailing_lt}
use lib.Arith.{lt-one}
use lib.Bits.{bit_and, bit_or, bit_xor, and_step, or_step, xor_add_and, and_shr, or_shr, xor_shr, and_le_l, and_le_r, xor_lt}
use lib.Count.{count_trailing_zeros, under}
use lib.Dec.{eqb-zero-suc, eqb-suc-zero, eqb-suc-suc}
use Rattle.std.proofs.lemmas.List.{get_or_past}
use Rattle.std.proofs.lemmas.Bool.{cases_eq, cases_lt, eq-eqb, ne_eqb, cond-false}
use Rattle.lent.specs.Bits.{bit, bit_at, FirstDifference, Agree}

-- ---- the bits of a word

-- a bit is 0 or 1
pub bit_below : (n k : ℕ) → bit n k < 2
bit_below n k = omega arith

-- no bit of 0 is set
pub bit_of_0 : (k : ℕ) → bit 0 k ≡ 0
bit_of_0 k = ap (λ (x : ℕ). x % 2) (zero-div (2 ^ k))

-- the lowest bit
pub bit_first : (n : ℕ) → bit n 0 ≡ n % 2
bit_first n = ap (λ (x : ℕ). x % 2) (omega arith)

-- the other bits are those of the half
pub bit_next : (n k : ℕ) → bit n (suc k) ≡ bit (n / 2) k
bit_next n k =
    let e : 1 + k ≡ suc k = omega arith in
    ap (λ (x : ℕ). x % 2) (ap (λ (x : ℕ). n / 2 ^ x) (sym e) ∙ sym (shr-shr n 1 k))

-- ---- the bits of `&`, `|` and `^`

and_odd : (a b : ℕ) → bit_and a b % 2 ≡ min (a % 2) (b % 2)
and_odd a b = omega (arith, and_step a b)

or_odd : (a b : ℕ) → bit_or a b % 2 ≡ max (a % 2) (b % 2)
or_odd a b = omega (arith, or_step a b)

xor_odd : (a b : ℕ) → bit_xor a b % 2 ≡ (a % 2 + b % 2) % 2
xor_odd a b = omega (arith, xor_add_and a b)

pub bit-bit_and : (a b k : ℕ) → bit (bit_and a b) k ≡ min (bit a k) (bit b k)
bit-bit_and a b k = ap (λ (x : ℕ). x % 2) (and_shr a b k) ∙ and_odd (a / 2 ^ k) (b / 2 ^ k)

pub bit-bit_or : (a b k : ℕ) → bit (bit_or a b) k ≡ max (bit a k) (bit b k)
bit-bit_or a b k = ap (λ (x : ℕ). x % 2) (or_shr a b k) ∙ or_odd (a / 2 ^ k) (b / 2 ^ k)

pub bit-bit_xor : (a b k : ℕ) → bit (bit_xor a b) k ≡ (bit a k + bit b k) % 2
bit-bit_xor a b k = ap (λ (x : ℕ). x % 2) (xor_shr a b k) ∙ xor_odd (a / 2 ^ k) (b / 2 ^ k)

-- where the bit of `a ^ b` is 0, the bits are the same
pub xor_same : (a b k : ℕ) → bit (bit_xor a b) k ≡ 0 → bit a k ≡ bit b k
xor_same a b k h = omega (arith, bit-bit_xor a b k)

-- where it is 1, they differ
pub xor_apart : (a b k : ℕ) → bit (bit_xor a b) k ≡ 1 → bit a k ≡ bit b k → ⊥
xor_apart a b k h e = omega (arith, bit-bit_xor a b k)

-- where `(a ^ b) & m` is 0, the bits in the mask are the same
pub masked_same : (a b m k : ℕ) → bit_and (bit_xor a b) m ≡ 0 → bit m k ≡ 1 → bit a k ≡ bit b k
masked_same a b m k z h =
    let none : bit (bit_and (bit_xor a b) m) k ≡ 0 = ap (λ (x : ℕ). bit x k) z ∙ bit_of_0 k in
    xor_same a b k (omega (arith, bit-bit_and (bit_xor a b) m k))

-- `a ^ b` is 0 of equal words only
pub xor_is_0 : (a b : ℕ) → bit_xor a b ≡ 0 → a ≡ b
xor_is_0 a b h = omega (arith, xor_add_and a b, and_le_l a b, and_le_r a b)

-- ---- one bit

-- 2 ^ j has the bit j alone
pub bit_pow : (j k : ℕ) → bit (2 ^ j) k ≡ cond (eqb k j) 1 0
bit_pow zero zero = refl
bit_pow zero (suc k) = bit_next 1 k ∙ bit_of_0 k ∙ ap (λ (b : Bool). cond b 1 0) (sym (eqb-suc-zero k))
bit_pow (suc j) zero =
    bit_first (2 ^ suc j) ∙ omega (arith, pow-suc 2 j) ∙ ap (λ (b : Bool). cond b 1 0) (sym (eqb-zero-suc j))
bit_pow (suc j) (suc k) =
    bit_next (2 ^ suc j) k ∙ ap (λ (x : ℕ). bit x k) (omega (arith, pow-suc 2 j)) ∙ bit_pow j k
    ∙ ap (λ (b : Bool). cond b 1 0) (sym (eqb-suc-suc k j))

max_cond : (b : Bool) (n : ℕ) → n < 2 → max n (cond b 1 0) ≡ cond b 1 n
max_cond true n h = omega arith
max_cond false n h = omega arith

-- `n | (1 << j)` has the bit j, and else the bits of n
pub bit_set : (n j k : ℕ) → bit (bit_or n (2 ^ j)) k ≡ cond (eqb k j) 1 (bit n k)
bit_set n j k =
    bit-bit_or n (2 ^ j) k ∙ ap (λ (x : ℕ). max (bit n k) x) (bit_pow j k) ∙ max_cond (eqb k j) (bit n k) (bit_below n k)

-- ---- words with the same bits

-- words with the same bits are equal
pub same_word : (w a b : ℕ) → a < 2 ^ w → b < 2 ^ w → ((k : ℕ) → k < w → bit a k ≡ bit b k) → a ≡ b
same_word zero a b ha hb h = lt-one ha ∙ sym (lt-one hb)
same_word (suc w) a b ha hb h =
    let p = pow-suc 2 w in
    let low : a % 2 ≡ b % 2 = sym (bit_first a) ∙ h 0 (omega arith) ∙ bit_first b in
    let high : a / 2 ≡ b / 2 = same_word w (a / 2) (b / 2) (omega arith) (omega arith)
    (λ k l. sym (bit_next a k) ∙ h (suc k) (omega arith) ∙ bit_next b k) in
    omega arith

-- ---- the lowest set bit

-- the bit at `trailing_zeros` is set
pub bit_trailing : (w n : ℕ) → 0 < n → n < 2 ^ w → bit n (count_trailing_zeros w n) ≡ 1
unfolding count_trailing_zeros
bit_trailing zero n p h = absurd (omega arith)
bit_trailing (suc w) n p h =
    go (n % 2) refl (λ e. bit_trailing w (n / 2) (omega arith) (omega (arith, pow-suc 2 w)))
  where
    go : (d : ℕ) → n % 2 ≡ d → (n % 2 ≡ 0 → bit (n / 2) (count_trailing_zeros w (n / 2)) ≡ 1)
        → bit n (under d (count_trailing_zeros w (n / 2))) ≡ 1
    go zero e rest = bit_next n (count_trailing_zeros w (n / 2)) ∙ rest e
    go (suc d) e rest = bit_first n ∙ omega arith

-- those below it are not
pub bit_under_trailing : (w n k : ℕ) → k < count_trailing_zeros w n → bit n k ≡ 0
unfolding count_trailing_zeros
bit_under_trailing zero n k l = absurd (omega arith)
bit_under_trailing (suc w) n k l = go (n % 2) k refl l (bit_under_trailing w (n / 2))
  where
    go : (d k : ℕ) → n % 2 ≡ d → k < under d (count_trailing_zeros w (n / 2))
        → ((j : ℕ) → j < count_trailing_zeros w (n / 2) → bit (n / 2) j ≡ 0) → bit n k ≡ 0
    go zero zero e l rest = bit_first n ∙ e
    go zero (suc k) e l rest = bit_next n k ∙ rest k (omega arith)
    go (suc d) k e l rest = absurd (omega arith)

-- ---- rows of words

-- bit k of word i
pub bit_at_word : (ws : List ℕ) (i k : ℕ) → k < 32 → bit_at ws (32 * i + k) ≡ bit (get_or ws i 0) k
bit_at_word ws i k h =
    let q : (32 * i + k) / 32 ≡ i = omega arith in
    let r : (32 * i + k) % 32 ≡ k = omega arith in
    ap₂ (λ (x y : ℕ). bit (get_or ws x 0) y) q r

-- past the end there is none
pub bit_at_past : (ws : List ℕ) (p : ℕ) → length ws ≤ p / 32 → bit_at ws p ≡ 0
bit_at_past ws p h = ap (λ (x : ℕ). bit x (p % 32)) (get_or_past ws (p / 32) 0 h) ∙ bit_of_0 (p % 32)

-- the bits in the words below i are the same where those words are
pub bit_at_same : (xs ys : List ℕ) (i : ℕ) → ((k : ℕ) → k < i → get_or xs k 0 ≡ get_or ys k 0)
    → (p : ℕ) → p < 32 * i → bit_at xs p ≡ bit_at ys p
bit_at_same xs ys i h p l = ap (λ (x : ℕ). bit x (p % 32)) (h (p / 32) (omega arith))

-- in one word, places are equal where their rests are
pub eqb_rest : (q p : ℕ) → q / 32 ≡ p / 32 → eqb (q % 32) (p % 32) ≡ eqb q p
eqb_rest q p e =
    elim (cases_eq q p) [
      | inl h ↦ eq-eqb (q % 32) (p % 32) (omega arith) ∙ sym (eq-eqb q p h)
      | inr h ↦ ne_eqb (q % 32) (p % 32) (λ r. h (omega arith)) ∙ sym (ne_eqb q p h)
    ]

-- `ws[p / 32] |= 1 << (p % 32)`
pub bit_at_set : (ws : List ℕ) (p : ℕ) → p < 32 * length ws
    → (q : ℕ) → bit_at (set ws (p / 32) (bit_or (get_or ws (p / 32) 0) (2 ^ (p % 32)))) q ≡ cond (eqb q p) 1 (bit_at ws q)
bit_at_set ws p h q =
    let v : ℕ = bit_or (get_or ws (p / 32) 0) (2 ^ (p % 32)) in
    elim (cases_eq (q / 32) (p / 32)) [
      | inl e ↦
          ap (λ (x : ℕ). bit (get_or (set ws (p / 32) v) x 0) (q % 32)) e
          ∙ ap (λ (x : ℕ). bit x (q % 32)) (get_or-set_same ws (p / 32) v 0 (omega arith))
          ∙ bit_set (get_or ws (p / 32) 0) (p % 32) (q % 32)
          ∙ ap₂ (λ (b : Bool) (x : ℕ). cond b 1 (bit (get_or ws x 0) (q % 32))) (eqb_rest q p e) (sym e)
      | inr n ↦
          ap (λ (x : ℕ). bit x (q % 32)) (get_or-set_other ws (p / 32) (q / 32) v 0 n)
          ∙ sym (cond-false (eqb q p) 1 (bit_at ws q) (ne_eqb q p (λ e. n (ap (λ (x : ℕ). x / 32) e))))
    ]

-- words that are all 0 have no bit
pub bit_at_zeros : (ws : List ℕ) → ((k : ℕ) → k < length ws → get_or ws k 0 ≡ 0) → (q : ℕ) → bit_at ws q ≡ 0
bit_at_zeros ws h q =
    elim (cases_lt (q / 32) (length ws)) [
      | inl l ↦ ap (λ (x : ℕ). bit x (q % 32)) (h (q / 32) l) ∙ bit_of_0 (q % 32)
      | inr l ↦ bit_at_past ws q l
    ]

-- rows agree where `(x ^ y) & m` is 0 of all words
pub agree_words : (xs ys mask : List ℕ)
    → ((k : ℕ) → k < length mask → bit_and (bit_xor (get_or xs k 0) (get_or ys k 0)) (get_or mask k 0) ≡ 0) → Agree xs ys mask
agree_words xs ys mask h j l m =
    masked_same (get_or xs (j / 32) 0) (get_or ys (j / 32) 0) (get_or mask (j / 32) 0) (j % 32) (h (j / 32) (omega arith)) m

-- it is 0 where the mask is
pub masked_none : (x m : ℕ) → m ≡ 0 → bit_and x m ≡ 0
masked_none x m e = omega (arith, and_le_r x m)

-- rows agree where it is 0 of the words outside of which the mask is 0
pub agree_between : (xs ys mask : List ℕ) (from to : ℕ) → ((k : ℕ) → k < from → get_or mask k 0 ≡ 0) → ((k : ℕ) → to ≤ k → get_or mask k 0 ≡ 0)
    → ((k : ℕ) → from ≤ k → k < to → bit_and (bit_xor (get_or xs k 0) (get_or ys k 0)) (get_or mask k 0) ≡ 0) → Agree xs ys mask
agree_between xs ys mask from to before after h = agree_words xs ys mask (λ k l. elim (cases_lt k from) [
  | inl p ↦ masked_none (bit_xor (get_or xs k 0) (get_or ys k 0)) (get_or mask k 0) (before k p)
  | inr p ↦ elim (cases_lt k to) [
    | inl q ↦ h k (omega (arith, p)) q
    | inr q ↦ masked_none (bit_xor (get_or xs k 0) (get_or ys k 0)) (get_or mask k 0) (after k (omega (arith, q)))
  ]
])

-- and don't where it isn't of one
pub agree_not : (xs ys mask : List ℕ) (i : ℕ) → i < length mask → get_or xs i 0 < 2 ^ 32 → get_or ys i 0 < 2 ^ 32
    → 0 < bit_and (bit_xor (get_or xs i 0) (get_or ys i 0)) (get_or mask i 0) → Agree xs ys mask → ⊥
agree_not xs ys mask i l fx fy p h =
    let x : ℕ = get_or xs i 0 in
    let y : ℕ = get_or ys i 0 in
    let m : ℕ = get_or mask i 0 in
    let n : ℕ = bit_and (bit_xor x y) m in
    let small : n < 2 ^ 32 = omega (arith, xor_lt 32 x y fx fy, and_le_l (bit_xor x y) m) in
    let t : ℕ = count_trailing_zeros 32 n in
    let t32 : t < 32 = trailing_lt 32 n p small in
    let one : bit n t ≡ 1 = bit_trailing 32 n p small in
    let both : bit n t ≡ min (bit (bit_xor x y) t) (bit m t) = bit-bit_and (bit_xor x y) m t in
    let apart : bit (bit_xor x y) t ≡ 1 = omega arith in
    let masked : bit m t ≡ 1 = omega arith in
    xor_apart x y t apart
    (sym (bit_at_word xs i t t32) ∙ h (32 * i + t) (omega arith) (bit_at_word mask i t t32 ∙ masked) ∙ bit_at_word ys i t t32)

-- `x ^ y` of words that differ has a lowest bit
lowest_apart : (x y : ℕ) → x < 2 ^ 32 → y < 2 ^ 32 → x ≢ y
    → (0 < bit_xor x y) × (bit_xor x y < 2 ^ 32) × (count_trailing_zeros 32 (bit_xor x y) < 32)
lowest_apart x y fx fy ne =
    let p : 0 < bit_xor x y = elim (cases_eq (bit_xor x y) 0) [ inl e ↦ absurd (ne (xor_is_0 x y e)) | inr n ↦ omega arith ] in
    let small : bit_xor x y < 2 ^ 32 = xor_lt 32 x y fx fy in
    (p, small, trailing_lt 32 (bit_xor x y) p small)

-- it is within the row
pub first_within : (xs ys : List ℕ) (i : ℕ) → i < length xs → get_or xs i 0 < 2 ^ 32 → get_or ys i 0 < 2 ^ 32 → get_or xs i 0 ≢ get_or ys i 0
    → 32 * i + count_trailing_zeros 32 (bit_xor (get_or xs i 0) (get_or ys i 0)) < 32 * length xs
first_within xs ys i l fx fy ne = omega (arith, (lowest_apart (get_or xs i 0) (get_or ys i 0) fx fy ne).2)

-- the first difference is the lowest bit of `x ^ y`, in the first word where the rows differ
pub first_in_word : (xs ys : List ℕ) (i : ℕ) → i < length xs → get_or xs i 0 < 2 ^ 32 → get_or ys i 0 < 2 ^ 32
    → get_or xs i 0 ≢ get_or ys i 0 → ((k : ℕ) → k < i → get_or xs k 0 ≡ get_or ys k 0)
    → FirstDifference xs ys (32 * i + count_trailing_zeros 32 (bit_xor (get_or xs i 0) (get_or ys i 0)))
first_in_word xs ys i l fx fy ne same =
    let x : ℕ = get_or xs i 0 in
    let y : ℕ = get_or ys i 0 in
    let n : ℕ = bit_xor x y in
    let low = lowest_apart x y fx fy ne in
    let t : ℕ = count_trailing_zeros 32 n in
    let p : 0 < n = low.0 in
    let small : n < 2 ^ 32 = low.1 in
    let t32 : t < 32 = low.2 in
    record {
      within = omega arith;
      differs = λ _ e. xor_apart x y t (bit_trailing 32 n p small) (sym (bit_at_word xs i t t32) ∙ e ∙ bit_at_word ys i t t32);
      before = λ q h. elim (cases_lt q (32 * i)) [
        | inl b ↦ bit_at_same xs ys i same q b
        | inr b ↦
            let k : ℕ = q % 32 in
            let e : q ≡ 32 * i + k = omega arith in
            let eq : bit_at xs (32 * i + k) ≡ bit_at ys (32 * i + k) =
            bit_at_word xs i k (omega arith) ∙ xor_same x y k (bit_under_trailing 32 n k (omega arith))
            ∙ sym (bit_at_word ys i k (omega arith)) in
            subst (λ (j : ℕ). bit_at xs j ≡ bit_at ys j) (sym e) eq
      ];
    }

-- equal rows have no first difference but the end
pub first_of_same : (xs ys : List ℕ) (j : ℕ) → ((i : ℕ) → bit_at xs i ≡ bit_at ys i) → FirstDifference xs ys j → j ≡ 32 * length xs
first_of_same xs ys j same f =
    elim (cases_lt j (32 * length xs)) [ inl l ↦ absurd (f.differs l (same j)) | inr l ↦ omega (arith, f.within) ]
