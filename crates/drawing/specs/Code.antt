-- What the code's values stand for.
use Rattle.std.specs.Prelude.{◌≡◌, ℕ, ◌<◌, T, length, Ok, Err, vec_items, string_bytes, Result}
use Rattle.std.specs.Option.{option_map}
use Rattle.names.specs.Numbered.{names}
use Rattle.drawing.specs.declared.plan.Drawing.{Drawing}
use Rattle.drawing.specs.declared.Reason.{Reason}
use Rattle.drawing.specs.declared.Reason.TheVariants.{Unexpected, SecondMachine, SecondStart, NoStart, UnknownStart, TooManyStates, TooManyArrows, TooManyButtons}
use Rattle.drawing.specs.declared.Trouble.{Trouble}
use Rattle.drawing.specs.declared.Trouble.TheVariants.{Refused, Memory}
use Rattle.drawing.specs.declared.sketch.Sketch.{Sketch}
use Rattle.drawing.specs.Arrows.{within}
use Rattle.drawing.specs.Model.{Draft, Plan, Why, unexpected, second_machine, second_start, no_start, unknown_start, too_many_states, too_many_arrows, too_many_buttons, Outcome, draws, refuses, Progress, going, stopped, finish, closed, excess}

abbrev pub drafted : Sketch → Draft
drafted k = record {
  title = option_map (λ n. n.now) k.title;
  start = option_map (λ p. (p.0, p.1.now)) k.start;
  states = names k.states;
  buttons = names k.buttons;
  arrows = vec_items k.arrows;
}

abbrev pub planned : Drawing → Plan
planned d = record {
  title = option_map string_bytes d.title;
  states = names d.states;
  buttons = names d.buttons;
  arrows = vec_items d.arrows;
  start = d.start;
}

abbrev pub why : Reason → Why
why (Unexpected e found) = unexpected e found.now
why SecondMachine = second_machine
why SecondStart = second_start
why NoStart = no_start
why (UnknownStart n) = unknown_start n.now
why (TooManyStates n) = too_many_states n
why (TooManyArrows n) = too_many_arrows n
why (TooManyButtons n) = too_many_buttons n

-- every number in the draft is that of a name
abbrev pub Numbered : Draft → Type 0
Numbered k = T (within (length k.states) (length k.buttons) k.arrows)

-- where memory did not fail, the code's step to k is the model's
abbrev pub Follows : Result (Unit {0}) Trouble → Sketch → Progress → Type 0
Follows (Ok u) k p = p ≡ going (drafted k)
Follows (Err (Refused f)) k p = p ≡ stopped f.line (why f.reason)
Follows (Err Memory) k p = Unit {0}

-- where memory did not fail, the result is the outcome
abbrev pub Agrees : Result Drawing Trouble → Outcome → Type 0
Agrees (Ok d) o = o ≡ draws (planned d)
Agrees (Err (Refused f)) o = o ≡ refuses f.line (why f.reason)
Agrees (Err Memory) o = Unit {0}

-- where the start has a number, the outcome hangs on the sizes alone
abbrev pub Begins : Result ℕ Trouble → ℕ → Draft → Type 0
Begins (Ok i) at k = (finish at k ≡ closed at k i (excess k)) × (i < length k.states)
Begins (Err (Refused f)) at k = finish at k ≡ refuses f.line (why f.reason)
Begins (Err Memory) at k = Unit {0}
