-- How many words a question has.
use Rattle.std.proofs.Common.{◌≡◌, ◌*◌, ◌≤◌, T, List, [], ◌∷◌, length, refl, ap, arith}
use Rattle.std.proofs.lemmas.List.{length-append}
use Rattle.std.proofs.lemmas.Bool.Decides.{nat_tests}
use Rattle.lts.specs.declared.Transition.{Transition}
use Rattle.lts.specs.Question.{Question, valid, transition_words}
use Rattle.query.specs.Asking.{AtMostWords}

long_transitions : (ts : List Transition) → length (transition_words ts) ≡ 3 * length ts
long_transitions [] = refl
long_transitions (t ∷ ts) = let ih = long_transitions ts in omega (arith, ih)

few_transitions : (q : Question) → T (valid q) → length q.machine.transitions ≤ 16384
few_transitions q h = grind (arith, nat_tests)

pub at_most_words : AtMostWords
at_most_words words q e =
    let ts = q.machine.transitions in
    let few = few_transitions q e.fine in
    let long = length-append (transition_words ts) (q.first ∷ q.second ∷ []) in
    let is = ap length e.is in
    omega (arith, few, long, is, long_transitions ts)
