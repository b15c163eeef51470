use Rattle.std.proofs.Common.{◌≡◌, ℕ, List}
use Rattle.lines.specs.Marked.{lines_up_to}
use Rattle.lines.specs.Progress.{all_needed, text_to, Placed}
use Rattle.lines.specs.Written.{Written}
use Rattle.lines.proofs.telling.tell.Given as goal

-- the oldest j formulas are told
abbrev pub invariant-loop-j : goal.invariant-loop-j
invariant-loop-j l = (l.next ≡ lines_up_to l.needs.refined (all_needed l.needs) l.j) × Placed l.needs.refined (all_needed l.needs) l.j l.places
    × ((before : List ℕ) → Written before (text_to l.needs.refined (all_needed l.needs) 0).lines l.initial.lines → Written before (text_to l.needs.refined (all_needed l.needs) l.j).lines l.lines)
