-- What is asked with lent words.
use Rattle.std.specs.Prelude.{◌≡◌, ℕ, ◌+◌, ◌*◌, ◌<◌, ◌≤◌, min, List, length}
use Rattle.lts.specs.Question.{Question, Encodes}
use Rattle.observer.specs.Compared.{ComparedPost}
use Rattle.observer.specs.declared.comparison.Compared.{Compared}
use Rattle.observer.specs.declared.comparison.Compared.TheVariants.{NoMachine}
use Rattle.query.specs.declared.plan.Lending.{Lending}
use Rattle.query.specs.declared.plan.Lending.TheVariants.{Whole, ByRule}

-- words that encode a question are at most 49,156
abbrev pub AtMostWords : Type 0
AtMostWords = (words : List ℕ) (q : Question) → Encodes words q → length words ≤ 49156

-- more words than any question has are no machine; else as many words are lent as the rule asks for, as far as there are so many
pub record AsksByRule (words : List ℕ) (work : ℕ) (lines lines' : List ℕ) (r : Compared) : Type 0 where
  pub long : 49156 < length words → (r ≡ NoMachine) × (lines' ≡ lines)
  pub short : length words ≤ 49156 → ComparedPost words (min work (65536 + 128 * length words)) lines lines' r

-- the answer, where all of `work` is lent or by the rule
abbrev pub Asks : Lending → List ℕ → ℕ → List ℕ → List ℕ → Compared → Type 0
Asks Whole words work lines lines' r = ComparedPost words work lines lines' r
Asks ByRule words work lines lines' r = AsksByRule words work lines lines' r
