-- How far ahead one has to look to tell the two states of a question apart.
use Rattle.std.specs.Prelude.{◌≡◌, ℕ, ◌+◌, ◌*◌, ◌<◌, ◌↔◌, List, length, Option, Some, None, Result, Ok, Err}
use Rattle.lts.specs.Bisimulation.{Bisimilar}
use Rattle.lts.specs.Formula.{Formula}
use Rattle.lts.specs.Question.{Question, Encodes}
use Rattle.theory.specs.Births.{births}
use Rattle.theory.specs.Rows.{first_formula, TellsLeast}
use Rattle.observer.specs.declared.unanswered.Unanswered.{Unanswered}
use Rattle.observer.specs.declared.unanswered.Unanswered.TheVariants.{NoMachine, Few}

-- the formula of the theory's list that first tells the two states apart
abbrev pub telling : Question → Formula
telling q = first_formula q.machine (births q.machine) q.first q.second

-- the two are bisimilar; or a formula of depth d holds of the first and not of the second, and none less deep tells them apart; or there is no question
abbrev pub DistanceSays : List ℕ → Result (Option ℕ) Unanswered → Type 0
DistanceSays words (Ok None) = (q : Question) × Encodes words q × Bisimilar q.machine q.first q.second
DistanceSays words (Ok (Some d)) = (q : Question) × Encodes words q × TellsLeast q.machine q.first q.second (telling q) d
DistanceSays words (Err NoMachine) = (q : Question) → Encodes words q → ⊥
DistanceSays words (Err Few) = Unit {0}

-- few: fewer words are lent than 65,536 and 128 for each word of the question
pub record DistancePost (words : List ℕ) (lent : ℕ) (r : Result (Option ℕ) Unanswered) : Type 0 where
  pub says : DistanceSays words r
  pub few : (lent < 65536 + 128 * length words) ↔ (r ≡ Err Few)
