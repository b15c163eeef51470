-- What reading words gives.
use Rattle.std.specs.Prelude.{◌≡◌, ℕ, List, Some, None, Option}
use Rattle.lts.specs.Question.{Question, Encodes, transition_words}
use Rattle.lts.specs.Decoding.{question_of}
use Rattle.observer.specs.declared.asked.Asked.{Asked}

-- the question that was read
abbrev pub question : Asked → Question
question a = question_of a.states a.transitions.now a.first a.second

-- the words encode it, and it borrows just the words of its transitions
pub record Reads (words : List ℕ) (a : Asked) : Type 0 where
  pub encoded : Encodes words (question a)
  pub borrowed : transition_words (question a).machine.transitions ≡ a.transitions.now

-- an answer is the question that the words encode; where there is none, they encode none
abbrev pub ReadSays : List ℕ → Option Asked → Type 0
ReadSays words None = (q : Question) → Encodes words q → ⊥
ReadSays words (Some a) = Reads words a
