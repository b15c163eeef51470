use Rattle.std.proofs.Common.{◌≡◌, ◌++◌, map, take}
use Rattle.lts.specs.Question.{transition_words}
use Rattle.beside.specs.Asks.{relabelled}
use Rattle.beside.proofs.Labelled.push_arrows.Given as goal

abbrev pub invariant-loop-a : goal.invariant-loop-a
invariant-loop-a l = l.words.items ≡ l.fn.words.items ++ transition_words (map (relabelled l.shift l.self.labels.items) (take l.a-index l.a-items))
