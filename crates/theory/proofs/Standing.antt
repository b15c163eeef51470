-- All the theorems together.
use Rattle.std.proofs.Common.{◌≡◌, ℕ, suc, ◌≤◌, ◌⊎◌, length, inl, inr, arith}
use Rattle.lts.specs.Machine.{Machine}
use Rattle.lts.specs.Formula.{satisfies}
use Rattle.theory.specs.Together.{Closed}
use Rattle.theory.specs.Births.{formula, rounds, births}
use Rattle.theory.specs.Parts.{Parts}
use Rattle.theory.proofs.Bools.{T-is, not_is}
use Rattle.theory.proofs.Rounds.{together_start, together_in, together_forth, together_back, together_shrinks}
use Rattle.theory.proofs.Agreement.{together_agrees, agrees_together, parted_told, parted_apart}
use Rattle.theory.proofs.Bisimilarity.{bisimilar_sym, bisimilar_trans, bisimilar_refl, bisimilar_agree}
use Rattle.theory.proofs.Stability.{together_equivalence, still_later, together_bisimilar, few_rounds, bisimilar_or_told, no_deeper, question_fine}
use Rattle.theory.proofs.Terms.{formula_holds, formula_fails}
use Rattle.theory.proofs.Growth.{together_alike, rounds_settled, rounds_extend}
use Rattle.theory.proofs.Bounds.{births_below_states, births_at_most_transitions}
use Rattle.theory.proofs.Ending.{no_longer_still, still_births, alike_bisimilar, bisimilar_alike}
use Rattle.theory.proofs.Least.{first_born_tells}
use Rattle.theory.proofs.Told.{told_lines_say, lines_say_what_is_needed, needed_need_their_terms, needed_is_found_again, needed_has_one_line, lines_use_earlier, few_lines}

rounds_end : (m : Machine) → Closed m → (k : ℕ) → (length (rounds m (suc k)) ≡ length (rounds m k)) ⊎ (m.states ≤ suc k) → births m ≡ rounds m k
rounds_end m closed k (inl h) = still_births m closed k (no_longer_still m closed k (omega arith))
rounds_end m closed k (inr h) = still_births m closed k (few_rounds m closed k h)

-- what the contract of `theory_stands` names
pub all_parts : Parts
all_parts = record {
  bisimilar_is_symmetric = bisimilar_sym;
  bisimilar_is_transitive = bisimilar_trans;
  bisimilar_is_reflexive = bisimilar_refl;
  bisimilar_satisfy_the_same = bisimilar_agree;
  all_together_at_first = together_start;
  together_after_a_round = λ m k s t. ((λ h. (together_forth m k s t h, together_back m k s t h)), (λ h. together_in m k s t h.0 h.1));
  together_is_an_equivalence = together_equivalence;
  together_shrinks = together_shrinks;
  together_is_untold = λ m k s t. (together_agrees m k s t, agrees_together m k s t);
  parted_is_told = parted_told;
  parted_by_a_transition = parted_apart;
  no_later_round_parts = still_later;
  together_is_bisimilar = together_bisimilar;
  few_rounds_part = few_rounds;
  bisimilar_or_told = bisimilar_or_told;
  no_deeper_tells = no_deeper;
  questions_are_closed = question_fine;
  questions_are_answered = λ w q h. let (closed, one, two) = question_fine w q h in bisimilar_or_told q.machine closed q.first q.second one two;
  new_formula_parts = λ m fs b x h g. (T-is (satisfies m (formula m fs b) x) (formula_holds m fs b x h), not_is (satisfies m (formula m fs b) b.lack) (formula_fails m fs b g));
  formulas_of_rounds = λ m closed k. ((rounds_settled m closed k).born, rounds_extend m closed k);
  equal_answers_are_together = λ m closed k s t hs ht. ((rounds_settled m closed k).settled s t hs ht, together_alike m k (rounds m k) (rounds_settled m closed k).born s t);
  few_formulas = λ m closed k. (births_below_states m k (rounds m k) (rounds_settled m closed k).born, births_at_most_transitions m k (rounds m k) (rounds_settled m closed k).born);
  rounds_end = rounds_end;
  equal_answers_are_bisimilar = λ m closed s t hs ht. (alike_bisimilar m closed s t hs ht, bisimilar_alike m s t);
  first_difference_is_least = λ m closed d s t hs ht. first_born_tells m m.states d (births m) s t (rounds_settled m closed m.states).born hs ht;
  told_lines_say = told_lines_say;
  lines_say_what_is_needed = lines_say_what_is_needed;
  needed_need_their_terms = needed_need_their_terms;
  needed_is_found_again = needed_is_found_again;
  needed_has_one_line = needed_has_one_line;
  lines_use_earlier = lines_use_earlier;
  few_lines = few_lines;
}
