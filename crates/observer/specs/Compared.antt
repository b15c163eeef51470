-- What comparing the two states of a question promises.
use Rattle.std.specs.Prelude.{◌≡◌, ℕ, ◌+◌, ◌*◌, ◌<◌, ◌≤◌, true, false, ◌↔◌, List, length, take, drop}
use Rattle.std.proofs.Math.Option.{some}
use Rattle.lts.specs.Bisimulation.{Bisimilar}
use Rattle.lts.specs.Formula.{Formula, satisfies, depth}
use Rattle.lts.specs.Line.{Line, lines_words, said}
use Rattle.lts.specs.Machine.{Machine}
use Rattle.lts.specs.Question.{Question, Encodes, OneQuestion}
use Rattle.theory.specs.Parts.{Parts}
use Rattle.theory.specs.Told.{told_of}
use Rattle.observer.specs.declared.comparison.Compared.{Compared}
use Rattle.observer.specs.declared.comparison.Compared.TheVariants.{Same, Differ, OutFull, NoMachine, Few}

-- the last line's formula holds of s and not of t, and no formula that is less deep is true of one and not of the other
pub record Best (m : Machine) (s t : ℕ) (ls : List Line) : Type 0 where
  pub formula : Formula
  pub is : said ls ≡ some formula
  pub some_line : 0 < length ls
  pub one : satisfies m formula s ≡ true
  pub other : satisfies m formula t ≡ false
  pub least : (g : Formula) → depth g < depth formula → satisfies m g s ≡ satisfies m g t

-- no more lines than these are told
abbrev pub most_lines : Machine → ℕ
most_lines m = 1 + m.states * (length m.transitions + 2 * m.states)

-- d steps ahead, by n lines: those that are told of s and t, whatever the room
pub record DifferBy (m : Machine) (s t d n : ℕ) : Type 0 where
  pub best : Best m s t (told_of m s t).lines
  pub deep : d ≡ depth best.formula
  pub count : n ≡ length (told_of m s t).lines
  pub most : n ≤ most_lines m

-- the told lines stand first, and the rest is as it was
pub record StandFirst (m : Machine) (s t n : ℕ) (lines lines' : List ℕ) : Type 0 where
  pub told : take (3 * n) lines' ≡ lines_words (told_of m s t).lines
  pub rest : drop (3 * n) lines' ≡ drop (3 * n) lines

-- what is told of two states of a machine, and what becomes of the room for lines
abbrev pub ApartSays : Machine → ℕ → ℕ → List ℕ → List ℕ → Compared → Type 0
ApartSays m s t lines lines' Same = Bisimilar m s t × (lines' ≡ lines)
ApartSays m s t lines lines' (Differ d n) = DifferBy m s t d n × StandFirst m s t n lines lines'
ApartSays m s t lines lines' (OutFull d n) = DifferBy m s t d n × (length lines < 3 * n) × (lines' ≡ lines)
ApartSays m s t lines lines' NoMachine = ⊥
ApartSays m s t lines lines' Few = ⊥

-- the words encode a question, and this is said of its two states
pub record AskedSays (words lines lines' : List ℕ) (r : Compared) : Type 0 where
  pub question : Question
  pub encoded : Encodes words question
  pub says : ApartSays question.machine question.first question.second lines lines' r

abbrev pub ComparedSays : List ℕ → List ℕ → List ℕ → Compared → Type 0
ComparedSays words lines lines' Same = AskedSays words lines lines' Same
ComparedSays words lines lines' (Differ d n) = AskedSays words lines lines' (Differ d n)
ComparedSays words lines lines' (OutFull d n) = AskedSays words lines lines' (OutFull d n)
ComparedSays words lines lines' NoMachine = ((q : Question) → Encodes words q → ⊥) × (lines' ≡ lines)
ComparedSays words lines lines' Few = lines' ≡ lines

-- few: fewer words are lent than 65,536 and 128 for each word of the question; and the theorems on which the answer rests
pub record ComparedPost (words : List ℕ) (lent : ℕ) (lines lines' : List ℕ) (r : Compared) : Type 0 where
  pub says : ComparedSays words lines lines' r
  pub few : (lent < 65536 + 128 * length words) ↔ (r ≡ Few)
  pub one_question : OneQuestion
  pub parts : Parts
