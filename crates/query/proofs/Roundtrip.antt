-- What is printed is read again.
use Rattle.std.proofs.Common.{◌≡◌, ℕ, suc, ◌^◌, ◌<◌, true, false, List, [], ◌∷◌, ◌++◌, map, length, Some, None, decimal, refl, ap, ◌∙◌, append-nil, arith}
use Rattle.std.specs.Char.{is_ascii_digit}
use Rattle.std.specs.List.{AllByRecursion}
use Rattle.std.specs.Str.{all_ascii_digits}
use Rattle.std.proofs.lemmas.Fmt.{digits_decimal, digits_value-decimal, decimal_nonempty}
use Rattle.std.proofs.lemmas.Bool.{and_parts, cond-true, cond-false}
use Rattle.std.proofs.lemmas.Bool.Decides.{nat_tests}
use Rattle.query.specs.Answers.{after_blanks}
use Rattle.query.specs.Reading.{blank, put, cut, pieces, value_after, numeral, number_of, numbers, no_number, going_on, read_from, reading, ReadsBack}
use Rattle.query.proofs.Numbers.{own, fine_in}

digit_plain : (c : ℕ) → is_ascii_digit c ≡ true → blank c ≡ false
digit_plain c h = grind (arith, nat_tests)

-- digits are no blanks, so they go before the first
cut_digits : (w bs : List ℕ) → all_ascii_digits w ≡ true → cut (w ++ bs) ≡ (w ++ (cut bs).0, (cut bs).1)
cut_digits [] bs h = refl
cut_digits (c ∷ w) bs h =
    let p = and_parts (is_ascii_digit c) (all_ascii_digits w) h in
    cond-false (blank c) ([], put (cut (w ++ bs)).0 (cut (w ++ bs)).1) (c ∷ (cut (w ++ bs)).0, (cut (w ++ bs)).1) (digit_plain c p.0)
    ∙ ap (λ (r : List ℕ × List (List ℕ)). (c ∷ r.0, r.1)) (cut_digits w bs p.1)

put_some : (w : List ℕ) (ws : List (List ℕ)) → 0 < length w → put w ws ≡ w ∷ ws
put_some [] ws h = absurd (omega arith)
put_some (c ∷ w) ws h = refl

small : (n : ℕ) → n < 2 ^ 32 → n < 2 ^ 64
small n h = omega arith

-- digits, and numbers each after a blank
pieces_digits : (w : List ℕ) (bs : List ℕ) (ws : List (List ℕ)) → all_ascii_digits w ≡ true → 0 < length w → cut bs ≡ ([], ws) → pieces (w ++ bs) ≡ w ∷ ws
pieces_digits w bs ws h l e =
    ap (λ (r : List ℕ × List (List ℕ)). put r.0 r.1) (cut_digits w bs h ∙ ap (λ (r : List ℕ × List (List ℕ)). (w ++ r.0, r.1)) e)
    ∙ ap (λ x. put x ws) (append-nil w) ∙ put_some w ws l

cut_blanks : (ns : List ℕ) → AllByRecursion (λ n. n < 2 ^ 32) ns → cut (after_blanks ns) ≡ ([], map decimal ns)
cut_blanks [] h = refl
cut_blanks (n ∷ ns) h = ap (λ ws. ([], ws)) (pieces_digits (decimal n) (after_blanks ns) (map decimal ns) (digits_decimal own n (small n h.0)) (decimal_nonempty n (small n h.0)) (cut_blanks ns h.1))

number_decimal : (n : ℕ) → n < 2 ^ 32 → number_of (decimal n) ≡ Some n
number_decimal n h =
    let v = digits_value-decimal own n (small n h) in
    cond-true (numeral (decimal n)) (Some (value_after 0 (decimal n))) None (fine_in (decimal n) (digits_decimal own n (small n h), decimal_nonempty n (small n h), (let l : value_after 0 (decimal n) < 2 ^ 32 = omega (arith, v, h) in l)))
    ∙ ap Some v

read_decimals : (k : ℕ) (ns : List ℕ) → AllByRecursion (λ n. n < 2 ^ 32) ns → read_from k (map decimal ns) ≡ numbers ns
read_decimals k [] h = refl
read_decimals k (n ∷ ns) h =
    ap (λ o. going_on o (no_number (decimal n) k) (read_from (suc k) (map decimal ns))) (number_decimal n h.0)
    ∙ ap (going_on (Some n) (no_number (decimal n) k)) (read_decimals (suc k) ns h.1)

pub reads_back : ReadsBack
unfolding reading
reads_back [] h = refl
reads_back (n ∷ ns) h =
    ap (read_from 1) (pieces_digits (decimal n) (after_blanks ns) (map decimal ns) (digits_decimal own n (small n h.0)) (decimal_nonempty n (small n h.0)) (cut_blanks ns h.1))
    ∙ read_decimals 1 (n ∷ ns) h
