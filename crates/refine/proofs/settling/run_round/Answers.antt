use Rattle.std.proofs.Common.{◌+◌, arith}
use Rattle.refine.proofs.Facts.{length_births, lead_under, begin_turn}
use Rattle.refine.proofs.settling.run_round.Goals as goal

pub turns-init : goal.turns-init
turns-init c =
    let h = c.states.invariant in
    (h.link, begin_turn _ _ _ _ c.args.round.number c.states.s c.states.births c.states.count c.states.rows c.states.leads c.args.round.fixed (omega arith) h)

pub overflow_add-count : goal.overflow_add-count
overflow_add-count c =
    let h = c.if-not-turn.ensures in
    omega (arith, h.link.room, length_births c.turn.new.births (c.turns.count + 1), c.args.round.fixed.narrow)

pub turns-smaller : goal.turns-smaller
turns-smaller c =
    let h = c.if-not-turn.ensures in
    omega (arith, h.rises, lead_under _ _ _ _ _ c.states.s c.turns.invariant.0 (omega arith))
