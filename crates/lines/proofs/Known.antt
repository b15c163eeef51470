-- What is known of formula j of a machine that was refined.
use Rattle.std.proofs.Common.{◌≡◌, ℕ, zero, suc, ◌<◌, cond, not, T, ◌⊎◌, List, ◌∷◌, length, sym, ap, ◌∙◌, subst, inl, inr, arith}
use Rattle.lts.specs.Machine.{Machine, Step}
use Rattle.theory.specs.Together.{Closed}
use Rattle.theory.specs.Births.{Birth, Born, alike, births, Extends, begun, grown}
use Rattle.theory.proofs.Bools.{not_T_of}
use Rattle.theory.proofs.Counting.{below_suc}
use Rattle.theory.proofs.Growth.{rounds_settled}
use Rattle.theory.proofs.Joining.{extends_rest}
use Rattle.theory.proofs.Sizes.{born_in, wanted_older}
use Rattle.theory.proofs.Terms.{extends_within}
use Rattle.chains.specs.System.{source_at, label_at, target_at}
use Rattle.formulas.specs.Link.{birth_at, births_of}
use Rattle.formulas.specs.Marks.{Terms, Differing}
use Rattle.formulas.proofs.Linking.{Adding, rows_differ, terms_bit}
use Rattle.formulas.proofs.Transitions.{place_among}
use Rattle.refine.specs.declared.refined.Refined.{Refined}
use Rattle.refine.specs.Refined.{machine_in}
use Rattle.refine.proofs.Telling.{closed_in}
use Rattle.lines.specs.Terms.{TermsAre}

-- an array's births began as those up to birth j
pub births_begin : (bw : List ℕ) (count j : ℕ) → j < count → Extends (births_of bw count) (birth_at bw j ∷ births_of bw j)
births_begin bw zero j h = absurd (omega arith)
births_begin bw (suc k) j h = by (births_begin bw k j) (below_suc j k h)
  where
    by : (j < k → Extends (births_of bw k) (birth_at bw j ∷ births_of bw j)) → (j < k) ⊎ (j ≡ k) → Extends (births_of bw (suc k)) (birth_at bw j ∷ births_of bw j)
    by older (inl l) = grown (older l)
    by older (inr e) = subst (λ i. Extends (births_of bw (suc k)) (birth_at bw i ∷ births_of bw i)) (sym e) begun

module _ (r : Refined) (j : ℕ) (l : j < r.counts.formulas) where
  abbrev m : Machine
  m = machine_in r

  abbrev b : Birth
  b = birth_at r.births.now j

  abbrev bs : List Birth
  bs = births_of r.births.now j

  closed : Closed m
  closed = closed_in (length r.answers.system.first.now) r.answers.system.words.now r.askable

  pub in_births : Extends (births m) (b ∷ bs)
  in_births = subst (λ (all : List Birth). Extends all (b ∷ bs)) r.done.born (births_begin r.births.now r.counts.formulas j l)

  born : Born m bs b
  born = born_in m m.states b bs in_births (rounds_settled m closed m.states).born

  pub lack_below : b.lack < length r.answers.system.first.now
  lack_below = born.lack_is_state

  pub reach_below : b.reach < length r.answers.system.first.now
  reach_below = closed born.holder b.label b.reach born.has

  told_apart : (v : ℕ) → Step m b.lack b.label v → T (not (alike m (births m) b.reach v))
  told_apart v p = not_T_of (alike m (births m) b.reach v) (alike m bs b.reach v) (extends_within m (extends_rest in_births) b.reach v) (born.lacks v p)

module _ (r : Refined) (j : ℕ) (l : j < r.counts.formulas) where
  abbrev own : Birth
  own = birth_at r.births.now j

  adding : Adding (length r.answers.system.first.now) r.answers.system.words.now (length r.answers.system.next.now) (births (machine_in r)) own r.answers.rows.now r.answers.width r.leads.now
  adding = record {
    whole = r.answers.system.chained.whole;
    target = r.answers.system.bounded.target;
    reach = reach_below r j l;
    lacks = λ i p x y. told_apart r j l (target_at r.answers.system.words.now i) (place_among r.answers.system.words.now (length r.answers.system.next.now) own.lack own.label i r.answers.system.chained.whole p x y);
    link = r.done.link;
  }

  -- rows of what the birth reaches and of what its lacking state reaches differ
  pub differing : (i : ℕ) → i < length r.answers.system.next.now → source_at r.answers.system.words.now i ≡ own.lack → label_at r.answers.system.words.now i ≡ own.label → Differing r.answers.rows.now r.answers.width own.reach (target_at r.answers.system.words.now i)
  differing i p x y = rows_differ r.done.link own.reach (target_at r.answers.system.words.now i) (reach_below r j l) (r.answers.system.bounded.target i p) (adding.lacks i p x y)

  -- the mask of terms by all formulas has the terms by the older ones
  pub terms_are : (mask : List ℕ) → Terms r.answers.system.words.now r.answers.rows.now r.answers.width own.label own.reach own.lack (length r.answers.system.next.now) mask → TermsAre r j mask
  terms_are mask ts q =
      terms_bit (length r.answers.system.first.now) r.answers.system.words.now (length r.answers.system.next.now) (births (machine_in r)) own r.answers.rows.now r.answers.width r.leads.now mask adding ts q
      ∙ ap (λ c. cond c 1 0) (wanted_older (machine_in r) own.label own.reach own.lack (extends_rest (in_births r j l)) (born r j l).lacks q)
