use Rattle.std.proofs.Common.{refl, rules}
use Rattle.lts.proofs.Encoding.{one_question}
use Rattle.theory.proofs.Standing.{all_parts}
use Rattle.observer.proofs.compared.compare.Goals as goal

pub returns-then-is_few : goal.returns-then-is_few
returns-then-is_few c = record { says = refl; few = search rules; one_question = one_question; parts = all_parts }

pub returns : goal.returns
returns c = record { says = c.answer.ensures.says; few = search rules; one_question = one_question; parts = all_parts }
