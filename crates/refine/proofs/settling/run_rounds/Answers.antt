use Rattle.std.proofs.Common.{◌≡◌, ℕ, List, length, sym, subst, arith}
use Rattle.lts.specs.Machine.{Machine}
use Rattle.theory.specs.Together.{Closed}
use Rattle.chains.specs.System.{machine_of}
use Rattle.chains.specs.declared.system.System.{System}
use Rattle.refine.specs.Rounds.{Fixed, Begun, Sofar}
use Rattle.refine.proofs.AllRounds.{begins, few, copied, late, no_fewer, no_more, goes_on, done}
use Rattle.refine.proofs.Facts.{closed_of, lead_under}
use Rattle.refine.proofs.settling.run_rounds.Goals as goal

abbrev machine : System → Machine
machine s = machine_of (length s.first.now) s.words.now

closed : (s : System) → Closed (machine s)
closed s = closed_of (length s.first.now) s.words.now s.next.now s.chained.whole s.bounded

-- a round over the same machine
settled : (s t : System) {k w : ℕ} {births : List ℕ} {count : ℕ} {rows leads : List ℕ} → t ≡ s → Sofar (machine t) k (length t.first.now) w births count rows leads → Sofar (machine s) k (length s.first.now) w births count rows leads
settled s t {k} {w} {births} {count} {rows} {leads} e h = subst (λ (u : System). Sofar (machine u) k (length u.first.now) w births count rows leads) e h

pub begin_round-blocks-requires-clause-leaders : goal.begin_round-blocks-requires-clause-leaders
begin_round-blocks-requires-clause-leaders c = λ s h. lead_under _ _ _ _ _ s c.loop-count.invariant.link h

pub invariant_of-round : goal.invariant_of-round
invariant_of-round c =
    let s = c.args.system in
    let h = c.loop-count.invariant in
    let same = sym c.begin_round-blocks.ensures.machine in
    let begun = copied (machine s) (closed s) c.loop-count.number c.args.width c.loop-count.births c.loop-count.count c.loop-count.rows c.loop-count.leads h c.begin_round-blocks.result.old.now c.begin_round-blocks.ensures.copied in
    let climbs = late (machine s) (closed s) c.loop-count.number c.args.width c.loop-count.births c.loop-count.count c.loop-count.rows c.loop-count.leads h in
    let bounded = few (machine s) (closed s) c.loop-count.number c.args.width c.loop-count.births c.loop-count.count c.loop-count.rows c.loop-count.leads h in
    record {
      fixed = subst (λ (s : System). Fixed s.words.now s.first.now s.next.now c.args.width) same c.requires.fixed;
      begun = subst (λ (s : System). Begun (machine s) c.loop-count.number c.begin_round-blocks.result.old.now) same begun;
      early = omega (arith, climbs, bounded, c.requires.fixed.few, c.requires.fixed.some);
    }

pub run_round-after-requires-clause-sofar : goal.run_round-after-requires-clause-sofar
run_round-after-requires-clause-sofar c =
    let s = c.args.system in
    subst (λ (s : System). Sofar (machine s) c.loop-count.number 0 c.args.width c.loop-count.births c.loop-count.count c.loop-count.rows c.loop-count.leads) (sym c.begin_round-blocks.ensures.machine)
    (begins (machine s) (closed s) c.loop-count.number c.args.width c.loop-count.births c.loop-count.count c.loop-count.rows c.loop-count.leads c.loop-count.invariant)

pub returns-then-after-count : goal.returns-then-after-count
returns-then-after-count c =
    let s = c.args.system in
    let h = c.loop-count.invariant in
    let after = settled s c.begin_round-blocks.result.system c.begin_round-blocks.ensures.machine c.run_round-after.ensures in
    done (machine s) (closed s) c.loop-count.number c.args.width c.loop-count.births c.loop-count.count c.loop-count.rows c.loop-count.leads h c.run_round-after.new.births c.run_round-after.result c.run_round-after.new.rows c.run_round-after.new.leads after c.if-after-count.true

pub loop-count-smaller : goal.loop-count-smaller
loop-count-smaller c =
    let s = c.args.system in
    let h = c.loop-count.invariant in
    let after = settled s c.begin_round-blocks.result.system c.begin_round-blocks.ensures.machine c.run_round-after.ensures in
    omega (arith, no_fewer (machine s) (closed s) c.loop-count.number c.args.width c.loop-count.births c.loop-count.count c.loop-count.rows c.loop-count.leads h c.run_round-after.new.births c.run_round-after.result c.run_round-after.new.rows c.run_round-after.new.leads after, no_more (machine s) (closed s) c.loop-count.number c.args.width c.loop-count.births c.loop-count.count c.loop-count.rows c.loop-count.leads h c.run_round-after.new.births c.run_round-after.result c.run_round-after.new.rows c.run_round-after.new.leads after, c.if-after-count.false, c.requires.fixed.some)

pub loop-count-preserved : goal.loop-count-preserved
loop-count-preserved c =
    let s = c.args.system in
    let h = c.loop-count.invariant in
    let after = settled s c.begin_round-blocks.result.system c.begin_round-blocks.ensures.machine c.run_round-after.ensures in
    goes_on (machine s) (closed s) c.loop-count.number c.args.width c.loop-count.births c.loop-count.count c.loop-count.rows c.loop-count.leads h c.run_round-after.new.births c.run_round-after.result c.run_round-after.new.rows c.run_round-after.new.leads after c.if-after-count.false
