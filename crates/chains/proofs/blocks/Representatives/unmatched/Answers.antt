use Rattle.std.proofs.Common.{length, refl, arith}
use Rattle.chains.proofs.Walking.{none_before}
use Rattle.chains.proofs.Matched.{first_unmatched, unmatched_none}
use Rattle.chains.proofs.blocks.Representatives.unmatched.Goals as goal

pub returns : goal.returns
returns c =
    let self = c.args.self in
    let ws = self.words.now in
    let n = length self.first.now in
    first_unmatched ws self.old.now n (length self.links.now) c.args.x.0 c.args.y.0
    c.empty_sets.new.sets c.add_labels.new.sets c.first_missing.result self.represented.whole self.bounded.label
    c.empty_sets.ensures c.add_labels.ensures c.first_missing.ensures

pub returns-then-is_stuck : goal.returns-then-is_stuck
returns-then-is_stuck c =
    let self = c.args.self in
    let stuck = c.is_stuck.ensures.0 c.if-is_stuck.true in
    unmatched_none self.words.now self.old.now (length self.first.now) (length self.links.now) c.args.x.0 c.args.y.0 self.represented.whole
    (λ t h e. none_before _ _ _ _ self.represented c.args.x.0 _ c.requires.one refl t (omega (arith, h, stuck)) e)
