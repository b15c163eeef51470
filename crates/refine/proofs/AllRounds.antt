-- Rounds until one adds nothing, as their loop sees them.
use Rattle.std.proofs.Common.{◌≡◌, ℕ, zero, suc, ◌+◌, ◌-◌, ◌<◌, ◌≤◌, ◌⊎◌, List, length, get_or, sym, refl, ap, ◌∙◌, subst, inl, inr, add-one, arith}
use Rattle.lts.specs.Machine.{Machine}
use Rattle.theory.specs.Together.{Closed}
use Rattle.theory.specs.Births.{Birth, alike, rounds, births}
use Rattle.theory.specs.Blocks.{leader}
use Rattle.theory.proofs.Counting.{below_suc}
use Rattle.theory.proofs.Growth.{rounds_extend}
use Rattle.theory.proofs.Ending.{extends_length}
use Rattle.formulas.specs.Link.{births_of, Link}
use Rattle.refine.specs.Rounds.{Begun, Sofar, After, Done}
use Rattle.refine.proofs.Facts.{length_births, few_births, round_over, round_begins, nothing_added}
use Rattle.refine.proofs.Turning.{last_round}

module _ (m : Machine) (closed : Closed m) (k w : ℕ) (bw : List ℕ) (count : ℕ) (rows leads : List ℕ) (h : After m k w bw count rows leads) where
  pub begins : Sofar m k 0 w bw count rows leads
  begins = round_begins m k w bw count rows leads h.born h.link

  pub few : count ≤ m.states - 1
  few = few_births m closed k bw count h.born

  -- the leaders, copied
  pub copied : (old : List ℕ) → old ≡ leads → Begun m k old
  copied old e = record {
    each = ap length e ∙ h.link.led;
    leaders = λ s hs. ap (λ (l : List ℕ). get_or l s 0) e ∙ h.link.leaders s hs ∙ ap (λ (bs : List Birth). leader (alike m bs) s) h.born;
  }

  -- each round so far added a birth
  pub late : k ≤ count
  late = climb k h.grew (ap length (sym h.born) ∙ length_births bw count)
    where
      climb : (j : ℕ) → ((i : ℕ) → i < j → length (rounds m i) < length (rounds m (suc i))) → {c : ℕ} → length (rounds m j) ≡ c → j ≤ c
      climb zero g e = omega arith
      climb (suc j) g e = let below = climb j (λ i l. g i (omega arith)) refl in let up = g j (omega arith) in omega arith

  module _ (cw : List ℕ) (after : ℕ) (rows' leads' : List ℕ) (n : Sofar m k m.states w cw after rows' leads') where
    over : births_of cw after ≡ rounds m (suc k)
    over = round_over m k w cw after rows' leads' n

    pub no_fewer : count ≤ after
    no_fewer = omega (arith, extends_length (rounds_extend m closed k), ap length h.born, ap length over, length_births bw count, length_births cw after)

    pub no_more : after ≤ m.states - 1
    no_more = few_births m closed (suc k) cw after over

    pub goes_on : (after ≡ count → ⊥) → After m (k + 1) w cw after rows' leads'
    goes_on ne = subst (λ j. After m j w cw after rows' leads') (sym (add-one k)) (record {
      born = over;
      link = n.link;
      grew = λ j l. by j (below_suc j k l);
    })
      where
        by : (j : ℕ) → (j < k) ⊎ (j ≡ k) → length (rounds m j) < length (rounds m (suc j))
        by j (inr e) = subst (λ i. length (rounds m i) < length (rounds m (suc i))) (sym e) (omega (arith, no_fewer, ne, ap length h.born, ap length over, length_births bw count, length_births cw after))
        by j (inl l) = h.grew j l

    pub done : after ≡ count → Done m k w cw count rows' leads'
    done e =
        let here : births_of cw count ≡ rounds m (suc k) = subst (λ j. births_of cw j ≡ rounds m (suc k)) e over in
        let same = nothing_added m closed k bw cw count h.born here in
        let last = last_round m closed k (ap length same) in
        let all : births_of cw count ≡ births m = here ∙ same ∙ sym last in
        record {
          born = all;
          link = subst (λ (bs : List Birth). Link m bs rows' w leads') all (subst (λ j. Link m (births_of cw j) rows' w leads') e n.link);
          last = last;
          grew = h.grew;
        }
