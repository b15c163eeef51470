-- What a text draws: a machine, or why it is refused.
use Rattle.std.specs.Prelude.{ℕ, suc, cond, List, [], ◌∷◌, ◌++◌, length, Some, None, Option, nat_lt}
use Rattle.std.specs.Option.{unwrap_or}
use Rattle.names.specs.Places.{Name, place, noted}
use Rattle.script.specs.declared.Expected.{Expected}
use Rattle.script.specs.Grammar.{Stated, blank, machine, start, state, arrow, Reading, says, fault, reading}
use Rattle.drawing.specs.declared.plan.Arrow.{Arrow}
use Rattle.drawing.specs.Lines.{lines_of}

-- what has been drawn so far; the start with the number of its line
pub record Draft : Type 0 where
  pub title : Option Name
  pub start : Option (ℕ × Name)
  pub states : List Name
  pub buttons : List Name
  pub arrows : List Arrow

-- a drawing: names by number, and transitions between the numbers
pub record Plan : Type 0 where
  pub title : Option Name
  pub states : List Name
  pub buttons : List Name
  pub arrows : List Arrow
  pub start : ℕ

-- why a text is refused
pub data Why : Type 0 where
  unexpected : Expected → List ℕ → Why
  second_machine : Why
  second_start : Why
  no_start : Why
  unknown_start : Name → Why
  too_many_states : ℕ → Why
  too_many_arrows : ℕ → Why
  too_many_buttons : ℕ → Why

-- a text draws something, or is refused at a line
pub data Outcome : Type 0 where
  draws : Plan → Outcome
  refuses : ℕ → Why → Outcome

-- what is drawn at a line, or that the text is refused there
pub data Progress : Type 0 where
  going : Draft → Progress
  stopped : ℕ → Why → Progress

abbrev pub clear : Draft
clear = record { title = None; start = None; states = []; buttons = []; arrows = [] }

abbrev pub titled : ℕ → Draft → Name → Option Name → Progress
titled at k n None = going (record { title = Some n; start = k.start; states = k.states; buttons = k.buttons; arrows = k.arrows })
titled at k n (Some m) = stopped at second_machine

abbrev pub started : ℕ → Draft → Name → Option (ℕ × Name) → Progress
started at k n None = going (record { title = k.title; start = Some (at, n); states = k.states; buttons = k.buttons; arrows = k.arrows })
started at k n (Some m) = stopped at second_start

-- the number of a name that is there
abbrev pub spot : List Name → Name → ℕ
spot ns n = unwrap_or (place ns n) 0

-- a transition by the numbers of its names
abbrev pub numbered : List Name → List Name → Name → Name → Name → Arrow
numbered ss bs s b t = record { source = spot ss s; button = spot bs b; target = spot ss t }

abbrev pub with_state : Draft → Name → Draft
with_state k n = record { title = k.title; start = k.start; states = noted k.states n; buttons = k.buttons; arrows = k.arrows }

abbrev pub with_arrow : Draft → Name → Name → Name → Draft
with_arrow k s b t = record {
  title = k.title;
  start = k.start;
  states = noted (noted k.states s) t;
  buttons = noted k.buttons b;
  arrows = k.arrows ++ (numbered (noted (noted k.states s) t) (noted k.buttons b) s b t ∷ []);
}

-- what a line's statement adds
abbrev pub say : ℕ → Draft → Stated → Progress
say at k blank = going k
say at k (machine n) = titled at k n k.title
say at k (start n) = started at k n k.start
say at k (state n) = going (with_state k n)
say at k (arrow s b t) = going (with_arrow k s b t)

abbrev pub add : ℕ → Draft → Reading → Progress
add at k (says s) = say at k s
add at k (fault e found) = stopped at (unexpected e found)

-- what there is more of than can be compared: 4,096 states, 16,384 transitions, 64 buttons
abbrev pub excess : Draft → Option Why
excess k =
    cond (nat_lt 4096 (length k.states)) (Some (too_many_states (length k.states)))
    (cond (nat_lt 16384 (length k.arrows)) (Some (too_many_arrows (length k.arrows)))
    (cond (nat_lt 64 (length k.buttons)) (Some (too_many_buttons (length k.buttons))) None))

abbrev pub closed : ℕ → Draft → ℕ → Option Why → Outcome
closed at k i None = draws (record { title = k.title; states = k.states; buttons = k.buttons; arrows = k.arrows; start = i })
closed at k i (Some w) = refuses at w

abbrev pub found : ℕ → Draft → ℕ × Name → Option ℕ → Outcome
found at k p None = refuses p.0 (unknown_start p.1)
found at k p (Some i) = closed at k i (excess k)

abbrev pub begun : ℕ → Draft → Option (ℕ × Name) → Outcome
begun at k None = refuses at no_start
begun at k (Some p) = found at k p (place k.states p.1)

-- after the last line, which has the number at
unfoldable pub finish : ℕ → Draft → Outcome
finish at k = begun at k k.start

-- the lines after the one with the number at
unfoldable pub run : ℕ → Progress → List (List ℕ) → Outcome
run at (stopped n why) ls = refuses n why
run at (going k) [] = finish at k
run at (going k) (l ∷ ls) = run (suc at) (add (suc at) k (reading l)) ls

-- what a text draws
unfoldable pub drawn : List ℕ → Outcome
drawn text = run 0 (going clear) (lines_of text)
