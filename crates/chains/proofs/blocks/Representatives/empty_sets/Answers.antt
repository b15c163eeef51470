use Rattle.std.proofs.Common.{◌≡◌, ◌∙◌, ap, sym}
use Rattle.chains.proofs.Walking.{at_first, none_before, stepped}
use Rattle.chains.proofs.Skipping.{emptied_next}
use Rattle.chains.proofs.blocks.Representatives.empty_sets.Goals as goal

pub loop-j-preserved : goal.loop-j-preserved
loop-j-preserved c =
    let (_, _, same, here, done) = c.loop-j.invariant in
    let (is, within, on, links) = c.in-Some.ensures.steps in
    let self = c.args.self in
    let step = stepped self.links.now _ _ _ _ same is within on in
    let (at, empty) = emptied_next self.words.now self.old.now self.first.now self.links.now c.args.x.0 _ _ _ _ c.loop-j.sets c.empty.new.sets
    self.represented step c.kind-block.ensures.block here done c.empty.ensures in
    (tt, tt, links ∙ same, at, empty)

pub loop-j-init : goal.loop-j-init
loop-j-init c =
    let self = c.args.self in
    let first = ap (λ w. w.at) c.into_iter-j-iterator.ensures.into_iter_gives ∙ c.walk-j-items.ensures.at in (
      tt,
      tt,
      ap (λ w. w.links.now) c.into_iter-j-iterator.ensures.into_iter_gives ∙ c.walk-j-items.ensures.links,
      at_first _ _ _ _ self.represented c.args.x.0 _ c.requires.state first,
      λ t l e. absurd (none_before _ _ _ _ self.represented c.args.x.0 _ c.requires.state first t l e),
    )
