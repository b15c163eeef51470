-- Where a name ends, with quotes and without.
use Rattle.std.proofs.Common.{◌≡◌, ℕ, suc, ◌<◌, ◌≤◌, true, false, not, ◌&&◌, eqb, List, [], ◌∷◌, ◌++◌, length, get_or, take, drop, sym, refl, ap, ◌∙◌, ⊎_elim, arith}
use mathlib.Core.Option.{some, none}
use Rattle.std.specs.Str.{IsCharBoundary}
use Rattle.std.proofs.lemmas.Bool.{false≢true, ne_eqb, eq-eqb, eqb-true, cond-true, cond-false, cond_both, and_cases, and_parts, not-false}
use Rattle.std.proofs.lemmas.Bool.Decides.{nat_tests}
use Rattle.script.specs.declared.Expected.TheVariants.{Name}
use Rattle.script.specs.Grammar.{plain, signed, bare, word, no_word, onto, unquoted, named}

-- bs has no quote
abbrev pub NoQuote : List ℕ → Type 0
NoQuote bs = (i : ℕ) → i < length bs → get_or bs i 0 ≡ 34 → ⊥

no_quote_rest : (c : ℕ) (bs : List ℕ) → NoQuote (c ∷ bs) → NoQuote bs
no_quote_rest c bs h i l e = h (suc i) (omega arith) e

pub unquoted_none : (bs : List ℕ) → NoQuote bs → unquoted bs ≡ none
unquoted_none [] h = refl
unquoted_none (c ∷ bs) h = cond-false (eqb c 34) (some ([], bs)) (onto c (unquoted bs)) (ne_eqb c 34 (h 0 (omega arith))) ∙ ap (onto c) (unquoted_none bs (no_quote_rest c bs h))

pub unquoted_some : (xs ys : List ℕ) → NoQuote xs → unquoted (xs ++ (34 ∷ ys)) ≡ some (xs, ys)
unquoted_some [] ys h = refl
unquoted_some (c ∷ xs) ys h = cond-false (eqb c 34) (some ([], xs ++ (34 ∷ ys))) (onto c (unquoted (xs ++ (34 ∷ ys)))) (ne_eqb c 34 (h 0 (omega arith))) ∙ ap (onto c) (unquoted_some xs ys (no_quote_rest c xs h))

pub bare_le : (bs : List ℕ) → bare bs ≤ length bs
bare_le [] = omega arith
bare_le (c ∷ bs) =
    let ih = bare_le bs in
    cond_both (plain c && not (signed (c ∷ bs))) (suc (bare bs)) 0 (λ n. n ≤ suc (length bs)) (λ _. omega arith) (λ _. omega arith)

signed_is : (c : ℕ) (bs : List ℕ) → signed (c ∷ bs) ≡ true → c ≡ 45
signed_is c [] h = absurd (false≢true h)
signed_is c (d ∷ bs) h = eqb-true c 45 (and_parts (eqb c 45) (eqb d 62) h).0

plain_low : (c : ℕ) → plain c ≡ false → c < 128
plain_low c h = grind (arith, nat_tests)

-- a name without quotes ends beside an ASCII byte, or at the end
pub bare_low : (bs : List ℕ) → bare bs < length bs → get_or bs (bare bs) 0 < 128
bare_low [] h = absurd (omega arith)
bare_low (c ∷ bs) h =
    let ih = bare_low bs in
    cond_both (plain c && not (signed (c ∷ bs))) (suc (bare bs)) 0 (λ n. n < suc (length bs) → get_or (c ∷ bs) n 0 < 128)
    (λ _ l. ih (omega arith))
    (λ e _. ⊎_elim (plain_low c) (λ n. let is = signed_is c bs (not-false (signed (c ∷ bs)) n) in omega arith) (and_cases (plain c) (not (signed (c ∷ bs))) e))
    h

pub bare_cut : (bs : List ℕ) → IsCharBoundary bs (bare bs)
bare_cut bs = (bare_le bs, λ l h. absurd (omega (arith, bare_low bs l)))

pub named_none : (bs : List ℕ) → ((rest : List ℕ) → bs ≡ 34 ∷ rest → ⊥) → bare bs ≡ 0 → no_word Name bs ≡ named bs
named_none [] h e = refl
named_none (c ∷ bs) h e = sym (cond-false (eqb c 34) _ _ (ne_eqb c 34 (λ q. h bs (ap (λ d. d ∷ bs) q))) ∙ cond-true (eqb (bare (c ∷ bs)) 0) _ _ (eq-eqb (bare (c ∷ bs)) 0 e))

pub named_bare : (bs : List ℕ) → ((rest : List ℕ) → bs ≡ 34 ∷ rest → ⊥) → (bare bs ≡ 0 → ⊥) → word false (take (bare bs) bs) (drop (bare bs) bs) ≡ named bs
named_bare [] h e = absurd (e refl)
named_bare (c ∷ bs) h e = sym (cond-false (eqb c 34) _ _ (ne_eqb c 34 (λ q. h bs (ap (λ d. d ∷ bs) q))) ∙ cond-false (eqb (bare (c ∷ bs)) 0) _ _ (ne_eqb (bare (c ∷ bs)) 0 e))
