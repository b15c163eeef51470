use Rattle.std.proofs.Common.{rules, tests, refl, ◌∙◌}
use Rattle.std.proofs.lemmas.Iterator.Consumers.{YieldsList-from_first}
use Rattle.std.proofs.lemmas.Iterator.Search.{all_from_yields_List}
use Rattle.lts.specs.Decoding.{transitions_of}
use Rattle.lts.specs.Question.{fits}
use Rattle.observer.proofs.Limits.{all_fit}
use Rattle.observer.proofs.asked.all_within.Goals as goal

-- `all` asks each transition that the words hold
pub returns : goal.returns
returns c =
    all_from_yields_List (fits c.args.states) c.all.new.self _ _ c.all.ensures.ran (YieldsList-from_first (λ x. x) (λ s. transitions_of s.words.now) (transitions_of c.args.words.now) refl) (λ x b q k. search (rules, tests))
    ∙ all_fit c.args.states (transitions_of c.args.words.now)
