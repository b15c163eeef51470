-- Questions, the words that encode them, and the one place where limits stand.
use Rattle.std.specs.Prelude.{◌≡◌, ℕ, Bool, true, ◌&&◌, T, List, [], ◌∷◌, ◌++◌, length, nat_le, nat_lt}
use Rattle.lts.specs.declared.Transition.{Transition}
use Rattle.lts.specs.Machine.{Machine}

-- a machine and the two of its states that are asked about
pub record Question : Type 0 where
  pub machine : Machine
  pub first : ℕ
  pub second : ℕ

-- from a state below n to one, by a label from 0 to 63
abbrev pub fits : ℕ → Transition → Bool
fits n t = nat_lt t.source n && (nat_lt t.target n && nat_lt t.label 64)

abbrev pub within : ℕ → List Transition → Bool
within n [] = true
within n (t ∷ ts) = fits n t && within n ts

-- 1 to 4,096 states, at most 16,384 transitions, and the two are states
abbrev pub valid : Question → Bool
valid q = (nat_le 1 q.machine.states && nat_le q.machine.states 4096) && ((nat_le (length q.machine.transitions) 16384 && within q.machine.states q.machine.transitions) && (nat_lt q.first q.machine.states && nat_lt q.second q.machine.states))

-- three words for each transition: source, label, target
abbrev pub transition_words : List Transition → List ℕ
transition_words [] = []
transition_words (t ∷ ts) = t.source ∷ t.label ∷ t.target ∷ transition_words ts

-- how many states, how many transitions, the transitions, and the two
abbrev pub question_words : Question → List ℕ
question_words q = q.machine.states ∷ length q.machine.transitions ∷ (transition_words q.machine.transitions ++ (q.first ∷ q.second ∷ []))

-- the words are those of a question within the limits
pub record Encodes (words : List ℕ) (q : Question) : Type 0 where
  pub is : words ≡ question_words q
  pub fine : T (valid q)

-- words encode at most one question
abbrev pub OneQuestion : Type 0
OneQuestion = (words : List ℕ) (p q : Question) → Encodes words p → Encodes words q → p ≡ q
