use Rattle.std.proofs.Common.{◌∙◌, ◌+◌, Err, ap, refl, subst}
use Rattle.std.proofs.lemmas.Iterator.Consumers.{YieldsList-end, YieldsList-turn}
use Rattle.std.proofs.lemmas.List.{length_push}
use Rattle.std.proofs.lemmas.Result.{err_from_is_err_and}
use Rattle.drawing.specs.Code.{Agrees, drafted}
use Rattle.drawing.specs.Model.{finish}
use Rattle.drawing.proofs.Believed.{reliable}
use Rattle.drawing.proofs.Followed.{next_line, none_yet, road, step_going, step_stopped, ended}
use Rattle.drawing.proofs.parse.Goals as goal

pub loop-i-init : goal.loop-i-init
loop-i-init c = (none_yet c.args.text.now c.new-sketch.result c.new-sketch.ensures, refl)

pub loop-i-preserved : goal.loop-i-preserved
loop-i-preserved c =
    let t = YieldsList-turn (road c.args.text.now c.split.ensures.text c.split.ensures.has_more c.split.ensures.pattern c.enumerate-i-items.ensures.source c.enumerate-i-items.ensures.count c.into_iter-i-iterator.ensures.into_iter_gives) c.loop-i.yielded _ c.loop-i.yielded_by _ _ (c.in-Some.i, c.in-Some.line) c.in-Some.is c.next.ensures.steps in
    rw length_push (
      step_going c.loop-i.invariant.0 c.in-Some.i c.in-Some.line.now c.add.new.self t c.in_ok-add.ensures,
      ap (λ i. i + 1) (next_line c.loop-i.invariant.0 c.in-Some.i c.in-Some.line.now t).0,
    )

pub returns-in_err-add : goal.returns-in_err-add
returns-in_err-add c =
    let t = YieldsList-turn (road c.args.text.now c.split.ensures.text c.split.ensures.has_more c.split.ensures.pattern c.enumerate-i-items.ensures.source c.enumerate-i-items.ensures.count c.into_iter-i-iterator.ensures.into_iter_gives) c.loop-i.yielded _ c.loop-i.yielded_by _ _ (c.in-Some.i, c.in-Some.line) c.in-Some.is c.next.ensures.steps in
    let p = err_from_is_err_and c.from_residual.result c.from_residual.ensures.1 in
    let r = step_stopped c.loop-i.invariant.0 c.in-Some.i c.in-Some.line.now c.add.new.self c.in_err-add.field-0.0 t c.in_err-add.ensures in
    rw (p.1, p.2) (record { exact = r; facts = reliable c.args.text.now (Err c.in_err-add.field-0.0) r })

pub returns : goal.returns
returns c =
    let t = YieldsList-end (road c.args.text.now c.split.ensures.text c.split.ensures.has_more c.split.ensures.pattern c.enumerate-i-items.ensures.source c.enumerate-i-items.ensures.count c.into_iter-i-iterator.ensures.into_iter_gives) c.loop-i.yielded _ c.loop-i.yielded_by _ _ c.in-None.is c.next.ensures.steps in
    let r = subst (Agrees c.finish.result) (ap (λ m. finish m (drafted c.loop-i.sketch)) c.loop-i.invariant.1 ∙ ended c.loop-i.invariant.0 t.1) c.finish.ensures in
    record { exact = r; facts = reliable c.args.text.now c.finish.result r }
