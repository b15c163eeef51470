-- What is printed where a question is not answered.
use Rattle.std.specs.Prelude.{ℕ, List, codes}
use Rattle.observer.specs.declared.unanswered.Unanswered.{Unanswered}
use Rattle.observer.specs.declared.unanswered.Unanswered.TheVariants.{NoMachine, Few}

abbrev pub unanswered_words : Unanswered → List ℕ
unanswered_words NoMachine = codes "no machine"
unanswered_words Few = codes "few words"
