-- How the arrays stand for the theory's list of formulas.
use Rattle.std.specs.Prelude.{◌≡◌, ℕ, zero, suc, ◌+◌, ◌*◌, ◌<◌, ◌≤◌, cond, List, [], ◌∷◌, length, take, drop, slice_index}
use Rattle.lts.specs.Machine.{Machine}
use Rattle.theory.specs.Blocks.{leader}
use Rattle.theory.specs.Births.{Birth, formulas, alike}
use Rattle.theory.specs.Rows.{answer}
use Rattle.lent.specs.Bits.{bit_at}

-- birth i, in four words: round, label, reached state, state that lacks
abbrev pub birth_at : List ℕ → ℕ → Birth
birth_at ws i = record { level = slice_index ws (4 * i); label = slice_index ws (4 * i + 1); reach = slice_index ws (4 * i + 2); lack = slice_index ws (4 * i + 3) }

-- the first k births, the newest first
abbrev pub births_of : List ℕ → ℕ → List Birth
births_of ws zero = []
births_of ws (suc k) = birth_at ws k ∷ births_of ws k

-- the row of state s, where each has w words
abbrev pub row_of : List ℕ → ℕ → ℕ → List ℕ
row_of rows w s = take w (drop (s * w) rows)

-- rows and leaders are those of the births bs
pub record Link (m : Machine) (bs : List Birth) (rows : List ℕ) (w : ℕ) (leads : List ℕ) : Type 0 where
  pub long : length rows ≡ m.states * w
  pub led : length leads ≡ m.states
  pub room : length bs ≤ 32 * w
  pub bits : (s j : ℕ) → s < m.states → j < 32 * w → bit_at (row_of rows w s) j ≡ cond (answer m (formulas m bs) j s) 1 0
  pub leaders : (s : ℕ) → s < m.states → slice_index leads s ≡ leader (alike m bs) s
