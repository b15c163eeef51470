-- Words that are numbers.
use Rattle.std.proofs.Common.{◌≡◌, ℕ, ◌^◌, ◌<◌, true, not, ◌&&◌, eqb, ltb, List, length, Some, None, Ok, Err, Result, sym, ap, ◌∙◌, ⊎_elim, arith, rules}
use Rattle.std.specs.Result.{OkIff, result_ok}
use Rattle.std.specs.Str.{all_ascii_digits}
use Rattle.std.proofs.lemmas.Str.Parse.{IsNumeralModel, numerals_by_fold}
use Rattle.std.proofs.lemmas.Bool.{and_from, and_parts, cases_Bool, cond-true, cond-false, eqb-false, lt-ltb, ltb-true, ne_eqb, not_from_false, not-true}
use Rattle.query.specs.Reading.{value_after, numeral, number_of}

pub own : IsNumeralModel (λ ds. all_ascii_digits ds ≡ true) (value_after 0)
own = numerals_by_fold _ (search rules) value_after (search rules)

-- what makes a word a number
abbrev pub Fine : List ℕ → Type 0
Fine w = (all_ascii_digits w ≡ true) × (0 < length w) × (value_after 0 w < 2 ^ 32)

pub fine_in : (w : List ℕ) → Fine w → numeral w ≡ true
fine_in w h =
    and_from (not (eqb (length w) 0)) (all_ascii_digits w && ltb (value_after 0 w) (2 ^ 32)) (not_from_false (eqb (length w) 0) (ne_eqb (length w) 0 (λ e. omega (arith, h.1, e))))
    (and_from (all_ascii_digits w) (ltb (value_after 0 w) (2 ^ 32)) h.0 (lt-ltb (value_after 0 w) (2 ^ 32) h.2))

pub fine_out : (w : List ℕ) → numeral w ≡ true → Fine w
fine_out w h =
    let p = and_parts (not (eqb (length w) 0)) (all_ascii_digits w && ltb (value_after 0 w) (2 ^ 32)) h in
    let q = and_parts (all_ascii_digits w) (ltb (value_after 0 w) (2 ^ 32)) p.1 in
    let n = eqb-false (length w) 0 (not-true (eqb (length w) 0) p.0) in
    (q.0, (let l : 0 < length w = omega (arith, n) in l), ltb-true (value_after 0 w) (2 ^ 32) q.1)

-- what `parse` gives of a word with no sign
pub number_is : {E : Type 0} (w : List ℕ) (r : Result ℕ E) → OkIff r (Fine w) (value_after 0 w) → result_ok r ≡ number_of w
number_is w (Ok x) h = ap Some h.1 ∙ sym (cond-true (numeral w) (Some (value_after 0 w)) None (fine_in w h.0))
number_is w (Err e) h = ⊎_elim (λ t. absurd (h (fine_out w t))) (λ f. sym (cond-false (numeral w) (Some (value_after 0 w)) None f)) (cases_Bool (numeral w))
