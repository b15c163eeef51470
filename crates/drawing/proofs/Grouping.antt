-- A number's last three digits, filled up with zeros.
use Rattle.std.proofs.Common.{◌≡◌, ℕ, ◌+◌, ◌-◌, ◌/◌, ◌%◌, ◌^◌, ◌<◌, ◌≤◌, List, [], ◌∷◌, ◌++◌, decimal, ap, ◌∙◌, ⊎_elim, arith}
use Rattle.std.specs.Fmt.{format_spec, styled_decimal, padded_integral, char_count}
use Rattle.std.proofs.lemmas.Bool.{cases_lt}
use Rattle.std.proofs.lemmas.Bool.Decides.{nat_tests}
use Rattle.std.proofs.lemmas.Fmt.{decimal_digit, decimal_step}
use Rattle.drawing.specs.Shown.{grouped}

abbrev three : ℕ → List ℕ
three r = (48 + r / 100) ∷ (48 + r / 10 % 10) ∷ (48 + r % 10) ∷ []

-- what `{:03}` writes
abbrev filled : ℕ → List ℕ
filled r = styled_decimal (format_spec 32 0 4 3 (2 ^ 64 - 1)) r

filled_one : (r : ℕ) → r < 10 → filled r ≡ three r
unfolding padded_integral char_count
filled_one r h =
    let a : r / 100 ≡ 0 = omega arith in
    let b : r / 10 % 10 ≡ 0 = omega arith in
    let c : r % 10 ≡ r = omega arith in
    rw (decimal_digit r h, a, b, c)

filled_two : (r : ℕ) → 10 ≤ r → r < 100 → filled r ≡ three r
unfolding padded_integral char_count
filled_two r g h =
    let a : r / 100 ≡ 0 = omega arith in
    let b : r / 10 % 10 ≡ r / 10 = omega arith in
    let short : r < 2 ^ 64 = omega arith in
    let digit : r / 10 < 10 = omega arith in
    rw (decimal_step r g short, decimal_digit (r / 10) digit, a, b)

filled_three : (r : ℕ) → 100 ≤ r → r < 1000 → filled r ≡ three r
unfolding padded_integral char_count
filled_three r g h =
    let a : r / 10 / 10 ≡ r / 100 = omega arith in
    let one : 10 ≤ r = omega arith in
    let two : 10 ≤ r / 10 = omega arith in
    let short : r < 2 ^ 64 = omega arith in
    let shorter : r / 10 < 2 ^ 64 = omega arith in
    let digit : r / 100 < 10 = omega arith in
    rw (decimal_step r one short, decimal_step (r / 10) two shorter, a, decimal_digit (r / 100) digit)

filled_is : (r : ℕ) → r < 1000 → filled r ≡ three r
filled_is r h = ⊎_elim (filled_one r) (λ g. ⊎_elim (filled_two r g) (λ l. filled_three r l h) (cases_lt r 100)) (cases_lt r 10)

digits_three : (n : ℕ) → three (n % 1000) ≡ decimal (n / 100 % 10) ++ (decimal (n / 10 % 10) ++ decimal (n % 10))
digits_three n =
    let a : n % 1000 / 100 ≡ n / 100 % 10 = omega arith in
    let b : n % 1000 / 10 % 10 ≡ n / 10 % 10 = omega arith in
    let c : n % 1000 % 10 ≡ n % 10 = omega arith in
    let x : n / 100 % 10 < 10 = omega arith in
    let y : n / 10 % 10 < 10 = omega arith in
    let z : n % 10 < 10 = omega arith in
    rw (a, b, c, decimal_digit (n / 100 % 10) x, decimal_digit (n / 10 % 10) y, decimal_digit (n % 10) z)

-- a number of four to six digits, as it is written
pub grouped_written : (n : ℕ) {s : _} → s ≡ format_spec 32 0 4 3 (2 ^ 64 - 1) → 1000 ≤ n → n < 1000000 → decimal (n / 1000) ++ (44 ∷ styled_decimal s (n % 1000)) ≡ grouped n
grouped_written n e h l =
    let small : n % 1000 < 1000 = omega arith in
    ap (λ q. decimal (n / 1000) ++ (44 ∷ styled_decimal q (n % 1000))) e ∙ ap (λ ds. decimal (n / 1000) ++ (44 ∷ ds)) (filled_is (n % 1000) small ∙ digits_three n) ∙ grind (arith, nat_tests)
