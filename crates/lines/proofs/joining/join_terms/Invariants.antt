use Rattle.lines.specs.Joins.{Appends, BodyIs, body_by}
use Rattle.lines.proofs.joining.join_terms.Given as goal

-- the terms among the oldest i formulas are joined
abbrev pub invariant-loop-i : goal.invariant-loop-i
invariant-loop-i l = BodyIs l.body l.next (body_by l.mask l.reach l.places l.next l.i) × Appends l.initial.lines l.next (body_by l.mask l.reach l.places l.next l.i).ands l.lines
