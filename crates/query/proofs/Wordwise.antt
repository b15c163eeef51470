-- A line is read word by word.
use Rattle.std.proofs.Common.{◌≡◌, ℕ, suc, ◌+◌, List, [], ◌∷◌, ◌++◌, length, take, drop, Some, None, Option, sym, refl, ap, ◌∙◌, append-nil, arith}
use Rattle.std.proofs.lemmas.List.{append_assoc, length-append}
use Rattle.query.specs.Reading.{Reading, numbers, no_number, skip, run, pieces, number_of, onto, going_on, read_from, reading}
use Rattle.query.proofs.Cuts.{skip_again, pieces_skip, pieces_next}

-- ns were read before the rest
abbrev pub before : List ℕ → Reading → Reading
before ns (numbers ms) = numbers (ns ++ ms)
before ns (no_number w k) = no_number w k

-- the line is read as ns and then what is left, which begins with no blank
pub record Sofar (line rest ns : List ℕ) : Type 0 where
  pub trimmed : skip rest ≡ rest
  pub is : before ns (read_from (suc (length ns)) (pieces rest)) ≡ reading line

before_none : (r : Reading) → before [] r ≡ r
before_none (numbers ms) = refl
before_none (no_number w k) = refl

before_onto : (ns : List ℕ) (n : ℕ) (r : Reading) → before ns (onto n r) ≡ before (ns ++ (n ∷ [])) r
before_onto ns n (numbers ms) = ap numbers (sym (append_assoc ns (n ∷ []) ms))
before_onto ns n (no_number w k) = refl

pub start : (line rest ns : List ℕ) → rest ≡ skip line → ns ≡ [] → Sofar line rest ns
unfolding reading
start line rest ns e z = record {
  trimmed = ap skip e ∙ skip_again line ∙ sym e;
  is = ap (λ l. before l (read_from (suc (length l)) (pieces rest))) z ∙ before_none (read_from 1 (pieces rest)) ∙ ap (read_from 1) (ap pieces e ∙ pieces_skip line);
}

-- the next word, as it is tested
next : (line rest ns word : List ℕ) (o : Option ℕ) → Sofar line rest ns → (length rest ≡ 0 → ⊥) → word ≡ take (run rest) rest → o ≡ number_of word → before ns (going_on o (no_number word (suc (length ns))) (read_from (suc (suc (length ns))) (pieces (drop (run rest) rest)))) ≡ reading line
next line rest ns word o s some e t =
    ap (λ x. before ns (going_on x (no_number word (suc (length ns))) (read_from (suc (suc (length ns))) (pieces (drop (run rest) rest))))) t
    ∙ ap (λ w. before ns (read_from (suc (length ns)) (w ∷ pieces (drop (run rest) rest)))) e
    ∙ ap (λ ws. before ns (read_from (suc (length ns)) ws)) (sym (pieces_next rest some s.trimmed))
    ∙ s.is

pub more : (line rest ns word left rest' ns' : List ℕ) (n : ℕ) → Sofar line rest ns → (length rest ≡ 0 → ⊥) → word ≡ take (run rest) rest → left ≡ drop (run rest) rest → rest' ≡ skip left → Some n ≡ number_of word → ns' ≡ ns ++ (n ∷ []) → Sofar line rest' ns'
more line rest ns word left rest' ns' n s some e f g t z =
    let k : length ns' ≡ suc (length ns) = ap length z ∙ length-append ns (n ∷ []) ∙ (let o : length ns + 1 ≡ suc (length ns) = omega arith in o) in
    record {
      trimmed = ap skip g ∙ skip_again left ∙ sym g;
      is =
          ap (λ j. before ns' (read_from (suc j) (pieces rest'))) k
          ∙ ap (λ ws. before ns' (read_from (suc (suc (length ns))) ws)) (ap pieces g ∙ pieces_skip left ∙ ap pieces f)
          ∙ ap (λ l. before l (read_from (suc (suc (length ns))) (pieces (drop (run rest) rest)))) z
          ∙ sym (before_onto ns n (read_from (suc (suc (length ns))) (pieces (drop (run rest) rest))))
          ∙ next line rest ns word (Some n) s some e t;
    }

pub stop : (line rest ns word : List ℕ) (k : ℕ) → Sofar line rest ns → (length rest ≡ 0 → ⊥) → word ≡ take (run rest) rest → None ≡ number_of word → k ≡ suc (length ns) → no_number word k ≡ reading line
stop line rest ns word k s some e t z = ap (no_number word) z ∙ next line rest ns word None s some e t

pub done : (line rest ns : List ℕ) → Sofar line rest ns → length rest ≡ 0 → numbers ns ≡ reading line
done line [] ns s e = ap numbers (sym (append-nil ns)) ∙ s.is
done line (c ∷ rest) ns s e = absurd (omega (arith, e))
