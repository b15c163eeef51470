use Rattle.std.proofs.Common.{◌≡◌, length, get_or, set, ap, ◌∙◌, arith}
use Rattle.std.proofs.lemmas.List.{set-get_or}
use Rattle.formulas.specs.Splits.{Moved, part_with}
use Rattle.formulas.proofs.Splitting.{led_more}
use Rattle.formulas.proofs.split.split.Goals as goal

pub loop-t-preserved : goal.loop-t-preserved
loop-t-preserved c =
    let t = c.loop-t.t in
    let leads = c.loop-t.leads in
    let parts = c.loop-t.parts in
    let many : length c.args.holds.now ≡ length leads = omega (arith, c.requires.answers, c.loop-t.auto.leads) in
    let led = c.led.ensures in
    let moved : Moved leads c.args.holds.now parts t (set leads t c.led.result) c.led.new.parts = record {
      same_leads = λ h. ap (set leads t) (led.same h).0 ∙ set-get_or leads t 0;
      same_parts = λ h. (led.same h).1;
      other_leads = λ d. ap (set leads t) ((led.other d).0 ∙ ap (λ n. part_with parts n (get_or leads t 0) t) many);
      other_parts = λ d. (led.other d).1 ∙ ap (set parts (get_or leads t 0)) ((led.other d).0 ∙ ap (λ n. part_with parts n (get_or leads t 0) t) many);
    } in
    led_more c.args.leads.now c.args.holds.now leads parts (set leads t c.led.result) c.led.new.parts t
    (omega arith) (omega arith) (omega arith) (c.requires.leaders t (omega arith)) c.loop-t.invariant.0 c.loop-t.invariant.1 moved
