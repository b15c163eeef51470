-- Formulas as lines of three words, each line using lines before it, counted from 0. The last line is the formula.
use Rattle.std.specs.Prelude.{ℕ, zero, suc, List, [], ◌∷◌, ◌++◌}
use Rattle.std.proofs.Math.Option.{Option, some, none}
use Rattle.lts.specs.Formula.{Formula, top, neg, and, dia}

pub data Line : Type 0 where
  top_line : Line
  neg_line : ℕ → Line
  and_line : ℕ → ℕ → Line
  dia_line : ℕ → ℕ → Line

-- 0 0 0; 1 line 0; 2 line line; 3 label line
abbrev pub line_words : Line → List ℕ
line_words top_line = 0 ∷ 0 ∷ 0 ∷ []
line_words (neg_line i) = 1 ∷ i ∷ 0 ∷ []
line_words (and_line i j) = 2 ∷ i ∷ j ∷ []
line_words (dia_line a i) = 3 ∷ a ∷ i ∷ []

abbrev pub lines_words : List Line → List ℕ
lines_words [] = []
lines_words (l ∷ ls) = line_words l ++ lines_words ls

-- what stands at place n, if anything does
abbrev pub nth : {A : Type 0} → List A → ℕ → Option A
nth [] n = none
nth (x ∷ xs) zero = some x
nth (x ∷ xs) (suc n) = nth xs n

-- c if there is nothing, else f of what there is
abbrev pub given : {A C : Type 0} → Option A → C → (A → C) → C
given none c f = c
given (some x) c f = f x

-- what a line says after lines that said fs
abbrev pub line_formula : List Formula → Line → Option Formula
line_formula fs top_line = some top
line_formula fs (neg_line i) = given (nth fs i) none (λ f. some (neg f))
line_formula fs (and_line i j) = given (nth fs i) none (λ f. given (nth fs j) none (λ g. some (and f g)))
line_formula fs (dia_line a i) = given (nth fs i) none (λ f. some (dia a f))

-- what the last of the lines says, after lines that said fs, of which the last said f
abbrev pub said_after : List Formula → Formula → List Line → Option Formula
said_after fs f [] = some f
said_after fs f (l ∷ ls) = given (line_formula fs l) none (λ g. said_after (fs ++ (g ∷ [])) g ls)

-- the formula that the lines say; none if some line uses one that isn't before it
abbrev pub said : List Line → Option Formula
said ls = said_after [] top ls
