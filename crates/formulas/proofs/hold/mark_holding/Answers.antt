use Rattle.std.proofs.Common.{◌≡◌, ◌+◌, ◌&&◌, List, ℕ, [], ◌∷◌, ◌++◌, cond, eqb, length, get_or, set, drop, sym, ap, ◌∙◌, subst, arith, length-append}
use Rattle.lts.specs.declared.Transition.{Transition}
use Rattle.lts.specs.Decoding.{transitions_of}
use Rattle.formulas.specs.Marks.{Holding}
use Rattle.formulas.proofs.Marking.{holding_more}
use Rattle.formulas.proofs.Transitions.{next_is, none_next}
use Rattle.formulas.proofs.hold.mark_holding.Goals as goal

pub mark_source-requires : goal.mark_source-requires
mark_source-requires c =
    let system = c.args.system in
    let (_, _, _, rest, _) = c.loop-t.invariant in
    let (below, is, _) = next_is system.words.now (length system.next.now) (length c.loop-t.yielded) c.in-Some.t _ system.chained.whole (sym rest ∙ c.in-Some.ensures.steps) in
    record {
      source = omega (arith, ap (λ (t : Transition). t.source) is, system.bounded.source (length c.loop-t.yielded) below);
      target = omega (arith, ap (λ (t : Transition). t.target) is, system.bounded.target (length c.loop-t.yielded) below);
    }

pub loop-t-preserved : goal.loop-t-preserved
loop-t-preserved c =
    let system = c.args.system in
    let k = length c.loop-t.yielded in
    let (_, _, _, rest, done) = c.loop-t.invariant in
    let (below, is, after) = next_is system.words.now (length system.next.now) k c.in-Some.t _ system.chained.whole (sym rest ∙ c.in-Some.ensures.steps) in
    let marked = subst (λ (t : Transition). ◌≡◌ {A = List ℕ} c.mark_source.new.holds (cond (eqb t.label c.args.label && eqb (get_or c.args.agree.now t.target 0) 1) (set c.loop-t.holds t.source 1) c.loop-t.holds)) is c.mark_source.ensures in
    let more = holding_more system.words.now c.args.agree.now c.loop-t.holds c.mark_source.new.holds c.args.label k
    (omega (arith, system.bounded.source k below)) (omega arith) done marked in
    let many : length (c.loop-t.yielded ++ (c.in-Some.t ∷ [])) ≡ k + 1 = length-append c.loop-t.yielded (c.in-Some.t ∷ []) in (
      tt,
      tt,
      omega arith,
      after ∙ ap (λ i. drop i (transitions_of system.words.now)) (sym many),
      subst (λ i. Holding system.words.now c.args.agree.now c.args.label i c.mark_source.new.holds) (sym many) more,
    )

pub returns : goal.returns
returns c =
    let system = c.args.system in
    let (_, _, few, rest, done) = c.loop-t.invariant in
    let all = none_next system.words.now (length system.next.now) (length c.loop-t.yielded) system.chained.whole (sym rest ∙ c.in-None.ensures.steps.0) in
    subst (λ i. Holding system.words.now c.args.agree.now c.args.label i c.loop-t.holds) (omega (arith, all, few)) done
