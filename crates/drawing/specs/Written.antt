-- The text of a drawing.
use Rattle.std.specs.Prelude.{◌≡◌, ℕ, List, [], ◌∷◌, ◌++◌, map, slice_index_or}
use Rattle.std.specs.List.{flat_map}
use Rattle.std.specs.Option.{option_to_list}
use Rattle.script.specs.Grammar.{Stated, machine, start, state}
use Rattle.script.specs.Printed.{printed}
use Rattle.drawing.specs.Facts.{spelled}
use Rattle.drawing.specs.Model.{Plan, draws, drawn}

-- a statement on a line of its own
abbrev pub line_of : Stated → List ℕ
line_of s = printed s ++ (10 ∷ [])

-- the title if there is one, the start, each state by number, and the transitions in order
abbrev pub statements_of : Plan → List Stated
statements_of p = map machine (option_to_list p.title) ++ (start (slice_index_or p.states p.start []) ∷ (map state p.states ++ map (spelled p.states p.buttons) p.arrows))

unfoldable pub text_of : Plan → List ℕ
text_of p = flat_map line_of (statements_of p)

-- what a text draws is drawn again by the text of that drawing
abbrev pub RoundTrip : Type 0
RoundTrip = (text : List ℕ) (p : Plan) → drawn text ≡ draws p → drawn (text_of p) ≡ draws p
