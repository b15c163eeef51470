-- Two drawings side by side: the states of the second are numbered on from those of the first, and equal buttons are one label.
use Rattle.std.specs.Prelude.{◌≡◌, ℕ, ◌+◌, ◌<◌, ◌↔◌, List, [], ◌++◌, map, length, slice_index_or}
use Rattle.std.specs.Option.{unwrap_or}
use Rattle.lts.specs.declared.Transition.{Transition}
use Rattle.lts.specs.Question.{Question}
use Rattle.names.specs.Places.{Name, place, noted_all}
use Rattle.drawing.specs.declared.plan.Arrow.{Arrow}
use Rattle.drawing.specs.Model.{Plan}

-- the buttons of both, each once: those of the first, then those that only the second has
abbrev pub buttons_of_both : Plan → Plan → List Name
buttons_of_both p q = noted_all (noted_all [] p.buttons) q.buttons

-- the label of a button
abbrev pub label_of : List Name → Name → ℕ
label_of all n = unwrap_or (place all n) 0

-- a transition of a drawing with these buttons, its states numbered on from `shift`
abbrev pub moved : ℕ → List Name → List Name → Arrow → Transition
moved shift all own a = record { source = shift + a.source; label = label_of all (slice_index_or own a.button []); target = shift + a.target }

-- one machine of both, and whether their two starts are the same
unfoldable pub joined : Plan → Plan → Question
joined p q = record {
  machine = record {
    states = length p.states + length q.states;
    transitions = map (moved 0 (buttons_of_both p q) p.buttons) p.arrows ++ map (moved (length p.states) (buttons_of_both p q) q.buttons) q.arrows;
  };
  first = p.start;
  second = length p.states + q.start;
}

-- a button of the one drawing and a button of the other have the same label exactly if they have the same name
abbrev pub OneLabel : Plan → Plan → Type 0
OneLabel p q = (i j : ℕ) → i < length p.buttons → j < length q.buttons → (label_of (buttons_of_both p q) (slice_index_or p.buttons i []) ≡ label_of (buttons_of_both p q) (slice_index_or q.buttons j [])) ↔ (slice_index_or p.buttons i [] ≡ slice_index_or q.buttons j [])
