-- Lemmas on the lines of a text.
use Rattle.std.proofs.Common.{◌≡◌, ℕ, ◌+◌, ◌<◌, ◌≤◌, Bool, false, cond, eqb, List, [], ◌∷◌, ◌++◌, length, take, count_by, sym, refl, ap, ◌∙◌, arith}
use Rattle.std.specs.List.{All, onto_first, slice_split}
use Rattle.std.proofs.lemmas.List.Splits.{length-slice_split, slice_split_at}
use Rattle.std.proofs.lemmas.List.Sums.{sum_by-take-le}
use Rattle.drawing.specs.Lines.{before, lines_of}

abbrev pub is_newline : ℕ → Bool
is_newline c = eqb c 10

before_onto : (c : ℕ) (ls : List (List ℕ)) → before c ls ≡ onto_first c ls
before_onto c [] = refl
before_onto c (l ∷ ls) = refl

-- the lines are the parts that `split` gives
pub lines_split : (bs : List ℕ) → lines_of bs ≡ slice_split is_newline bs
unfolding lines_of
lines_split [] = refl
lines_split (c ∷ bs) = ap (λ ls. cond (eqb c 10) ([] ∷ ls) (before c ls)) (lines_split bs) ∙ ap (cond (eqb c 10) ([] ∷ slice_split is_newline bs)) (before_onto c (slice_split is_newline bs))

-- one line more than newlines
pub lines_counted : (bs : List ℕ) → length (lines_of bs) ≡ count_by is_newline bs + 1
lines_counted bs = ap length (lines_split bs) ∙ length-slice_split is_newline bs

-- there is a line
pub lines_some : (bs : List ℕ) → 0 < length (lines_of bs)
lines_some bs = omega (arith, lines_counted bs)

-- a front has no more lines than the whole
pub lines_front : (n : ℕ) (bs : List ℕ) → length (lines_of (take n bs)) ≤ length (lines_of bs)
lines_front n bs = omega (arith, lines_counted bs, lines_counted (take n bs), sum_by-take-le (λ c. cond (eqb c 10) 1 0) bs n)

-- the first line, up to the first newline
pub lines_cut : (l bs : List ℕ) → All (λ c. is_newline c ≡ false) l → lines_of (l ++ (10 ∷ bs)) ≡ l ∷ lines_of bs
lines_cut l bs h = lines_split (l ++ (10 ∷ bs)) ∙ slice_split_at is_newline l 10 bs h refl ∙ ap (λ ls. l ∷ ls) (sym (lines_split bs))
