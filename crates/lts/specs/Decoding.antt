-- Transitions as they stand in words, three words each.
use Rattle.std.specs.Prelude.{ℕ, List, [], ◌∷◌, Some, None, Option}
use Rattle.lts.specs.declared.Transition.{Transition}
use Rattle.lts.specs.Question.{Question}

-- the transition that the words start with
abbrev pub first_transition : List ℕ → Option Transition
first_transition [] = None
first_transition (s ∷ []) = None
first_transition (s ∷ a ∷ []) = None
first_transition (s ∷ a ∷ t ∷ ws) = Some (record { source = s; label = a; target = t })

-- the transitions that the words hold, less what is left over at the end
abbrev pub transitions_of : List ℕ → List Transition
transitions_of [] = []
transitions_of (s ∷ []) = []
transitions_of (s ∷ a ∷ []) = []
transitions_of (s ∷ a ∷ t ∷ ws) = record { source = s; label = a; target = t } ∷ transitions_of ws

-- the question with n states, the transitions that the words hold, and the two that are asked about
abbrev pub question_of : ℕ → List ℕ → ℕ → ℕ → Question
question_of n ws f s = record { machine = record { states = n; transitions = transitions_of ws }; first = f; second = s }
