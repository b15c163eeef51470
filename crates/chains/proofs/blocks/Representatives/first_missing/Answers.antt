use Rattle.std.proofs.Common.{◌∙◌}
use Rattle.chains.proofs.Walking.{at_first, none_before, stepped}
use Rattle.chains.proofs.Skipping.{listed_next, listed_test}
use Rattle.chains.proofs.blocks.Representatives.first_missing.Goals as goal

pub search-preserved : goal.search-preserved
search-preserved c =
    let (same, here, listed) = c.search.invariant in
    let (is, within, on, links) = c.in-Some.ensures.steps in
    let self = c.args.self in
    let ws = self.words.now in
    let step = stepped self.links.now _ _ _ _ same is within on in
    let (seen, _) = listed_test ws self.old.now c.args.sets.now _ _ _ _ c.kind-block.ensures.block c.kind-block.ensures.label c.has_label.ensures in
    let (at, all) = listed_next ws self.old.now self.first.now self.links.now c.args.x.0 _ _ _ c.args.sets.now
    self.represented step here listed (seen c.if-not-has_label.false) in
    (links ∙ same, at, all)

pub search-init : goal.search-init
search-init c =
    let self = c.args.self in (
      c.walk-walk.ensures.links,
      at_first _ _ _ _ self.represented c.args.x.0 _ c.requires c.walk-walk.ensures.at,
      λ t l e. absurd (none_before _ _ _ _ self.represented c.args.x.0 _ c.requires c.walk-walk.ensures.at t l e),
    )
