-- Lines that are appended, and terms that are joined by them.
use Rattle.std.specs.Prelude.{◌≡◌, ℕ, ◌+◌, cond, List, ◌++◌, length, ◌==◌, nat_eq, slice_index}
use Rattle.lts.specs.Line.{Line}
use Rattle.theory.specs.Told.{Joined, join, joined, term_line}
use Rattle.lent.specs.Bits.{bit_at}
use Rattle.lines.specs.Written.{Written}
use Rattle.lines.specs.declared.joining.Body.{Body}

-- behind n lines that stand there the lines ls are written, and nothing else
abbrev pub Appends : List ℕ → ℕ → List Line → List ℕ → Type 0
Appends lines n ls lines' = (before : List ℕ) (xs : List Line) → length xs ≡ n → Written before xs lines → Written before (xs ++ ls) lines'

-- what the code has of joined terms whose first and_line is line n
pub record BodyIs (b : Body) (n : ℕ) (j : Joined) : Type 0 where
  pub at : b.at.0 ≡ j.at
  pub next : b.next ≡ n + length j.ands

-- j becomes k in code and lines
pub record Becomes (n : ℕ) (j k : Joined) (lines : List ℕ) (b' : Body) (lines' : List ℕ) : Type 0 where
  pub is : BodyIs b' n k
  pub wrote : (start : List ℕ) → Appends start n j.ands lines → Appends start n k.ands lines'

-- a term at line t is joined, whatever was before
abbrev pub Joins : ℕ → Body → List ℕ → Body → List ℕ → Type 0
Joins t b lines b' lines' = (n : ℕ) (j : Joined) → BodyIs b n j → Becomes n j (join n t j) lines b' lines'

-- formula i, which stands at line p, is joined if the mask has it
abbrev pub TermJoins : List ℕ → List ℕ → ℕ → ℕ → Body → List ℕ → Body → List ℕ → Type 0
TermJoins mask reach i p b lines b' lines' = (n : ℕ) (j : Joined) → BodyIs b n j
    → Becomes n j (cond (bit_at mask i == 1) (join n (term_line (bit_at reach i == 1) p) j) j) lines b' lines'

-- the terms of the mask among the oldest k formulas, joined
abbrev pub body_by : List ℕ → List ℕ → List ℕ → ℕ → ℕ → Joined
body_by mask reach places n k = joined (λ i. nat_eq (bit_at mask i) 1) (λ i. term_line (bit_at reach i == 1) (slice_index places i)) n k
