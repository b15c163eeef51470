use Rattle.std.proofs.Common.{◌≡◌, ◌*◌, length, sym, ap, ◌∙◌, subst, arith}
use Rattle.chains.specs.System.{machine_of, Bounded}
use Rattle.refine.specs.Askable.{Askable}
use Rattle.refine.proofs.Facts.{length_births}
use Rattle.refine.proofs.Starting.{bounded_of, start_after}
use Rattle.refine.proofs.lending.refine.Goals as goal

pub chain-requires-clause-sources : goal.chain-requires-clause-sources
chain-requires-clause-sources c =
    let all = c.split_at_mut-next.ensures.front_len in
    let each = c.split_at_mut-first.ensures.front_len in
    λ j h. omega (arith, (bounded_of c.args.states c.args.words.now c.split_at_mut-next.result.0.now (omega (arith, c.requires.askable.whole)) c.requires.askable.inside).source j h)

pub invariant_of-system-clause-bounded : goal.invariant_of-system-clause-bounded
invariant_of-system-clause-bounded c =
    let ws = c.args.words.now in
    let ns = c.chain.new.next in
    let states : length c.chain.new.first ≡ c.args.states = omega (arith, c.chain.auto.first, c.split_at_mut-first.ensures.front_len) in
    subst (λ n. Bounded n ws ns) (sym states) (bounded_of c.args.states ws ns c.chain.ensures.whole c.requires.askable.inside)

pub run_rounds-counts-requires-clause-start : goal.run_rounds-counts-requires-clause-start
run_rounds-counts-requires-clause-start c =
    let n = c.args.states in
    let w = c.row_width-width.result in
    let states : length c.chain.new.first ≡ n = omega (arith, c.chain.auto.first, c.split_at_mut-first.ensures.front_len) in
    let led : length c.fill.new.words ≡ n = omega (arith, c.fill.auto.words, c.split_at_mut-leads.ensures.front_len) in
    let long : length c.fill-2.new.words ≡ n * w = omega (arith, c.fill-2.auto.words, c.split_at_mut-rows.ensures.front_len) in
    start_after (machine_of (length c.chain.new.first) c.args.words.now) w c.split_at_mut-births.result.0.now c.fill-2.new.words c.fill.new.words (subst (λ m. length c.fill-2.new.words ≡ m * w) (sym states) long) (led ∙ sym states) c.fill-2.ensures c.fill.ensures

pub invariant_of-result : goal.invariant_of-result
invariant_of-result c =
    let states : length c.chain.new.first ≡ c.args.states = omega (arith, c.chain.auto.first, c.split_at_mut-first.ensures.front_len) in
    let done = c.run_rounds-counts.ensures in
    let k = c.run_rounds-counts.result.formulas in
    record {
      askable = subst (λ n. Askable n c.args.words.now) (sym states) c.requires.askable;
      done = done;
      narrow = omega (arith, c.row_width-width.ensures.narrow, c.requires.askable.few);
      room = omega (arith, done.link.room, ap length done.born, length_births c.run_rounds-counts.new.births k, c.run_rounds-counts.auto.births, c.split_at_mut-births.ensures.front_len);
    }
