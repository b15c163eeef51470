use Rattle.std.proofs.Common.{◌≡◌, length, ◌∙◌, ap, sym, arith}
use Rattle.chains.proofs.Walking.{at_first, none_before, stepped}
use Rattle.chains.proofs.Adding.{added_next}
use Rattle.chains.proofs.blocks.Representatives.add_labels.Goals as goal

pub loop-j-preserved : goal.loop-j-preserved
loop-j-preserved c =
    let (_, _, same, here, done) = c.loop-j.invariant in
    let (is, within, on, links) = c.in-Some.ensures.steps in
    let self = c.args.self in
    let ws = self.words.now in
    let step = stepped self.links.now _ _ _ _ same is within on in
    let (at, added) = added_next ws self.first.now self.links.now self.old.now (length self.first.now) c.args.y.0 _ _ _ _ _ c.args.sets.now c.loop-j.sets c.add_label.new.sets
    self.represented self.bounded step c.kind-block.ensures.block c.kind-block.ensures.label here done c.add_label.ensures in
    (tt, tt, links ∙ same, at, added)

pub loop-j-init : goal.loop-j-init
loop-j-init c =
    let self = c.args.self in
    let first = ap (λ w. w.at) c.into_iter-j-iterator.ensures.into_iter_gives ∙ c.walk-j-items.ensures.at in (
      tt,
      tt,
      ap (λ w. w.links.now) c.into_iter-j-iterator.ensures.into_iter_gives ∙ c.walk-j-items.ensures.links,
      at_first _ _ _ _ self.represented c.args.y.0 _ c.requires.state first,
      record {
        listed = λ t l e. absurd (none_before _ _ _ _ self.represented c.args.y.0 _ c.requires.state first t l e);
        only = λ b a l z o. absurd (omega (arith, z, o));
      },
    )
