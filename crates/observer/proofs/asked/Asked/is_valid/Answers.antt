use Rattle.std.proofs.Common.{rules}
use Rattle.observer.proofs.Limits.{length_transitions}
use Rattle.observer.proofs.asked.Asked.is_valid.Goals as goal

pub returns-then-self-gt-MAX_TRANSITIONS : goal.returns-then-self-gt-MAX_TRANSITIONS
returns-then-self-gt-MAX_TRANSITIONS c = let e = length_transitions c.args.self.now.transitions.now in search rules

pub returns : goal.returns
returns c = let e = length_transitions c.args.self.now.transitions.now in search rules
