-- What can be said of a drawing and its text, whatever order the text is read in.
use Rattle.std.specs.Prelude.{◌≡◌, ℕ, ◌<◌, ◌≤◌, List, [], ◌∷◌, map, length, Ok, Err, Result, slice_index_or}
use Rattle.std.specs.List.{flat_map, AllByRecursion}
use Rattle.std.specs.Option.{option_to_list}
use Rattle.names.specs.Places.{Name, noted_all, Distinct}
use Rattle.script.specs.Grammar.{Stated, blank, machine, start, state, arrow, Reading, says, fault, reading}
use Rattle.drawing.specs.declared.plan.Arrow.{Arrow}
use Rattle.drawing.specs.declared.plan.Drawing.{Drawing}
use Rattle.drawing.specs.declared.Trouble.{Trouble}
use Rattle.drawing.specs.declared.Trouble.TheVariants.{Refused, Memory}
use Rattle.drawing.specs.Code.{planned}
use Rattle.drawing.specs.Lines.{lines_of}
use Rattle.drawing.specs.Model.{Plan}

-- what a line says, if it says anything
abbrev pub said_in : Reading → List Stated
said_in (says s) = s ∷ []
said_in (fault e found) = []

-- what the lines of a text say
abbrev pub said : List ℕ → List Stated
said text = flat_map (λ l. said_in (reading l)) (lines_of text)

-- the title that a statement gives
abbrev pub title_in : Stated → List Name
title_in blank = []
title_in (machine n) = n ∷ []
title_in (start n) = []
title_in (state n) = []
title_in (arrow s b t) = []

-- the start that a statement gives
abbrev pub start_in : Stated → List Name
start_in blank = []
start_in (machine n) = []
start_in (start n) = n ∷ []
start_in (state n) = []
start_in (arrow s b t) = []

-- the states that a statement names; a start does not make a state
abbrev pub states_in : Stated → List Name
states_in blank = []
states_in (machine n) = []
states_in (start n) = []
states_in (state n) = n ∷ []
states_in (arrow s b t) = s ∷ (t ∷ [])

-- the button that a statement names
abbrev pub buttons_in : Stated → List Name
buttons_in blank = []
buttons_in (machine n) = []
buttons_in (start n) = []
buttons_in (state n) = []
buttons_in (arrow s b t) = b ∷ []

-- the statement, where it is a transition
abbrev pub arrows_in : Stated → List Stated
arrows_in blank = []
arrows_in (machine n) = []
arrows_in (start n) = []
arrows_in (state n) = []
arrows_in (arrow s b t) = arrow s b t ∷ []

-- a transition by its names
abbrev pub spelled : List Name → List Name → Arrow → Stated
spelled ss bs a = arrow (slice_index_or ss a.source []) (slice_index_or bs a.button []) (slice_index_or ss a.target [])

-- its numbers are those of names
abbrev pub Within : List Name → List Name → Arrow → Type 0
Within ss bs a = (a.source < length ss) × (a.button < length bs) × (a.target < length ss)

pub record Faithful (text : List ℕ) (p : Plan) : Type 0 where
  -- each line says something
  pub lines : map reading (lines_of text) ≡ map says (said text)
  -- the title is the one that the text gives, if any
  pub title : flat_map title_in (said text) ≡ option_to_list p.title
  -- the start's name is the one that the text gives, once
  pub start : flat_map start_in (said text) ≡ slice_index_or p.states p.start [] ∷ []
  -- the states and the buttons are those that the text names, in the order in which each is first named
  pub states : p.states ≡ noted_all [] (flat_map states_in (said text))
  pub buttons : p.buttons ≡ noted_all [] (flat_map buttons_in (said text))
  -- the transitions are those of the text, in its order
  pub arrows : map (spelled p.states p.buttons) p.arrows ≡ flat_map arrows_in (said text)
  -- names and numbers go one to one
  pub states_differ : Distinct p.states
  pub buttons_differ : Distinct p.buttons
  -- what can be compared
  pub some_state : 1 ≤ length p.states
  pub few_states : length p.states ≤ 4096
  pub few_arrows : length p.arrows ≤ 16384
  pub few_buttons : length p.buttons ≤ 64
  -- each number is that of a name
  pub start_within : p.start < length p.states
  pub arrows_within : AllByRecursion (Within p.states p.buttons) p.arrows

-- what a reader can rely on: a drawing is faithful, and a refusal names a line of the text
abbrev pub Reliable : Result Drawing Trouble → List ℕ → Type 0
Reliable (Ok d) text = Faithful text (planned d)
Reliable (Err (Refused f)) text = (1 ≤ f.line) × (f.line ≤ length (lines_of text))
Reliable (Err Memory) text = Unit {0}
