use Rattle.std.proofs.Common.{◌≡◌, length}
use Rattle.chains.specs.Matching.{AllListed}
use Rattle.chains.proofs.Walking.{At}
use Rattle.chains.proofs.blocks.Representatives.first_missing.Given as goal

abbrev pub invariant-search : goal.invariant-search
invariant-search l =
    (l.walk.links.now ≡ l.self.links.now)
    × At l.self.words.now (length l.self.links.now) l.fn.x.0 l.walk.at
    × AllListed l.self.words.now l.self.old.now l.walk.at l.fn.x.0 l.sets
