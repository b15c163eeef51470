-- Lines as they stand in words.
use Rattle.std.specs.Prelude.{◌≡◌, ℕ, ◌+◌, ◌*◌, List, ◌++◌, length, take, drop}
use Rattle.lts.specs.Line as lts
use Rattle.lines.specs.declared.line.Says.{Says}
use Rattle.lines.specs.declared.line.Says.TheVariants.{Top, Not, Both, Can}

-- what a line says, as the definitions have it
abbrev pub line_of : Says → lts.Line
line_of Top = lts.top_line
line_of (Not i) = lts.neg_line i.0
line_of (Both i j) = lts.and_line i.0 j.0
line_of (Can a i) = lts.dia_line a i.0

-- line l was written at its place, and nothing else changed
pub record LineWritten (before : List ℕ) (at : ℕ) (l : lts.Line) (after : List ℕ) : Type 0 where
  pub front : take (3 * at + 3) after ≡ take (3 * at) before ++ lts.line_words l
  pub rest : drop (3 * at + 3) after ≡ drop (3 * at + 3) before

-- the lines ls stand first, and what comes after them is as it was in `before`
pub record Written (before : List ℕ) (ls : List lts.Line) (after : List ℕ) : Type 0 where
  pub words : take (3 * length ls) after ≡ lts.lines_words ls
  pub rest : drop (3 * length ls) after ≡ drop (3 * length ls) before
