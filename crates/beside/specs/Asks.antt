-- What putting two drawings side by side gives.
use Rattle.std.specs.Prelude.{◌≡◌, ℕ, ◌+◌, ◌^◌, ◌<◌, ◌≤◌, List, [], ◌∷◌, ◌++◌, map, length, Ok, Err, vec_items, Result, Vec, slice_index, slice_index_or}
use Rattle.std.specs.declared.alloc.Global.{Global}
use Rattle.lts.specs.declared.Transition.{Transition}
use Rattle.lts.specs.Question.{Encodes, transition_words}
use Rattle.names.specs.Places.{Name, noted, noted_all}
use Rattle.drawing.specs.declared.plan.Arrow.{Arrow}
use Rattle.drawing.specs.Model.{Plan}
use Rattle.beside.specs.declared.Trouble.{Trouble}
use Rattle.beside.specs.declared.Trouble.TheVariants.{TooManyStates, TooManyArrows, TooManyButtons, Memory}
use Rattle.beside.specs.Joined.{joined, label_of, buttons_of_both, OneLabel}

-- the labels of names that are noted in turn
abbrev pub labels : List Name → List Name → List ℕ
labels all [] = []
labels all (n ∷ ns) = label_of (noted all n) n ∷ labels (noted all n) ns

-- from a table of names, these were noted, which gave that table and those labels
pub record Noting (start ns all : List Name) (ls : List ℕ) : Type 0 where
  pub table : all ≡ noted_all start ns
  pub given : ls ≡ labels start ns

-- an answer encodes the question of both; a refusal says how many there are of what there is too much of
abbrev pub Asks : Result (Vec ℕ Global) Trouble → Plan → Plan → Type 0
Asks (Ok words) p q = Encodes (vec_items words) (joined p q) × OneLabel p q
Asks (Err (TooManyStates n)) p q = (n ≡ length p.states + length q.states) × (4096 < n)
Asks (Err (TooManyArrows n)) p q = (n ≡ length p.arrows + length q.arrows) × (16384 < n)
Asks (Err (TooManyButtons n)) p q = (n ≡ length (buttons_of_both p q)) × (64 < n)
Asks (Err Memory) p q = Unit {0}

-- a transition by labels that were given to the buttons
abbrev pub relabelled : ℕ → List ℕ → Arrow → Transition
relabelled shift ls a = record { source = shift + a.source; label = slice_index ls a.button; target = shift + a.target }

-- its numbers fit words, and its button has a label
pub record Movable (shift : ℕ) (ls : List ℕ) (a : Arrow) : Type 0 where
  pub source : shift + a.source < 2 ^ 32
  pub target : shift + a.target < 2 ^ 32
  pub labelled : a.button < length ls
  pub label : slice_index_or ls a.button 0 < 2 ^ 32

-- what stands in for a transition past the end of a list
abbrev pub no_arrow : Arrow
no_arrow = record { source = 0; button = 0; target = 0 }

-- the words of both: the first's transitions by their labels, then the second's
abbrev pub both_words : Plan → Plan → List ℕ → List ℕ → List ℕ
both_words p q ls ms = (length p.states + length q.states) ∷ (length p.arrows + length q.arrows) ∷ (transition_words (map (relabelled 0 ls) p.arrows) ++ (transition_words (map (relabelled (length p.states) ms) q.arrows) ++ (p.start ∷ (length p.states + q.start) ∷ [])))

-- two drawings are few enough together, and each button has a label
pub record Ready (p q : Plan) (ls ms : List ℕ) : Type 0 where
  pub states : length p.states + length q.states ≤ 4096
  pub arrows : length p.arrows + length q.arrows ≤ 16384
  pub first_labels : length ls ≡ length p.buttons
  pub second_labels : length ms ≡ length q.buttons
  pub first_small : (j : ℕ) → j < length ls → slice_index ls j < 64
  pub second_small : (j : ℕ) → j < length ms → slice_index ms j < 64
