-- Down the list, formula by formula: what is demanded so far, and how many lines that takes.
use Rattle.std.proofs.Common.{◌≡◌, ℕ, suc, ◌+◌, ◌-◌, ◌<◌, ◌≤◌, Bool, true, false, cond, List, [], ◌∷◌, length, sym, refl, ap, ◌∙◌, subst, ap₂, mul-le-mul, arith}
use Rattle.lts.specs.Machine.{Machine}
use Rattle.theory.specs.Blocks.{count}
use Rattle.theory.specs.Births.{Birth, births}
use Rattle.theory.specs.Told.{Demands, passed_on, demands, demand_one, lines_for, tell}
use Rattle.theory.proofs.Bounds.{births_below_states}
use Rattle.theory.proofs.Growth.{rounds_settled}
use Rattle.theory.proofs.Told.{tell_few}
use Rattle.theory.proofs.Sizes.{told_size, demands_here}
use Rattle.formulas.specs.Link.{birth_at, births_of}
use Rattle.formulas.proofs.Linking.{births_length}
use Rattle.refine.specs.declared.refined.Refined.{Refined}
use Rattle.refine.specs.Refined.{machine_in}
use Rattle.refine.proofs.Telling.{closed_in}
use Rattle.lines.specs.Terms.{has_term}
use Rattle.lines.specs.Marked.{Demanded, Passes, wanted_in, Marking, Marked}
use Rattle.lines.proofs.Known.{in_births}

-- one birth more, opened
demands_next : (m : Machine) (b : Birth) (bs : List Birth) (d : Demands) → demands m (b ∷ bs) d ≡ demands m bs (passed_on m b bs d)
unfolding demands
demands_next m b bs d = refl

demands_none : (m : Machine) (d : Demands) → demands m [] d ≡ d
unfolding demands
demands_none m d = refl

-- no births take one line
pub tell_none : (m : Machine) (d : Demands) → length (tell m d []).lines ≡ 1
unfolding tell
tell_none m d = refl

-- how many lines there can be
pub tell_fits : (r : Refined) → (d : Demands) → length (tell (machine_in r) d (births (machine_in r))).lines ≤ 16777217
tell_fits r d =
    let m = machine_in r in
    let closed = closed_in (length r.answers.system.first.now) r.answers.system.words.now r.askable in
    let l = births_below_states m m.states (births m) (rounds_settled m closed m.states).born in
    let up = mul-le-mul {n₁ = length (births m)} {m₁ = suc (length (births m))} {n₂ = 4095} {m₂ = 4096} (omega (arith, r.askable.few)) (omega (arith, r.askable.few)) in
    omega (arith, tell_few m d (births m))

module _ (r : Refined) (j : ℕ) (n : Bool) where
  abbrev m : Machine
  m = machine_in r

  abbrev all : Demands
  all = wanted_in r j n

  pub starts : (needed negated : List ℕ) → Demanded (demand_one j n) r.answers.width needed negated → Marking r all r.counts.formulas needed negated 1
  starts needed negated k = record {
    d = demand_one j n;
    rest = ap (λ (bs : List Birth). demands m bs (demand_one j n)) (sym r.done.born);
    bits = k;
    size = omega (arith, ap (λ (bs : List Birth). length (tell m all bs).lines) r.done.born);
  }

  next : (i : ℕ) → i < r.counts.formulas → (needed negated needed' negated' : List ℕ) (lines more : ℕ) → Marking r all (suc i) needed negated lines → Passes r i needed negated needed' negated' more
      → Marking r all i needed' negated' (lines + more)
  next i l needed negated needed' negated' lines more k p =
      let b = birth_at r.births.now i in
      let bs = births_of r.births.now i in
      let q = p k.d k.bits in
      let old = births_length r.births.now i in
      let need : all.need (length bs) ≡ k.d.need i = ap (λ (x : Demands). x.need (length bs)) k.rest ∙ demands_here true m b bs k.d ∙ ap k.d.need old in
      let negate : all.negated (length bs) ≡ k.d.negated i = ap (λ (x : Demands). x.negated (length bs)) k.rest ∙ demands_here false m b bs k.d ∙ ap k.d.negated old in
      let same : cond (all.need (length bs)) (lines_for (count (has_term r i) (length bs)) (all.negated (length bs))) 0 ≡ cond (k.d.need i) (lines_for (count (has_term r i) i) (k.d.negated i)) 0 =
      ap₂ (λ (c : Bool) (x : ℕ). cond c x 0) need (ap₂ lines_for (ap (count (has_term r i)) old) negate) in
      let size = told_size m (demand_one j n) b bs (in_births r i l) in
      record {
        d = passed_on m b bs k.d;
        rest = k.rest ∙ demands_next m b bs k.d;
        bits = q.bits;
        size = omega (arith, k.size, q.size, same, size);
      }

  -- as the loop counts
  pub goes_on : (k : ℕ) → 0 < k → k ≤ r.counts.formulas → (needed negated needed' negated' : List ℕ) (lines more : ℕ) → Marking r all k needed negated lines → Passes r (k - 1) needed negated needed' negated' more
      → Marking r all (k - 1) needed' negated' (lines + more)
  goes_on k o l needed negated needed' negated' lines more h p =
      let e : k ≡ suc (k - 1) = omega arith in
      next (k - 1) (omega arith) needed negated needed' negated' lines more (subst (λ i. Marking r all i needed negated lines) e h) p

  pub ends : (needed negated : List ℕ) (lines : ℕ) → Marking r all 0 needed negated lines → Marked r all needed negated lines
  ends needed negated lines k = record {
    bits = subst (λ (x : Demands). Demanded x r.answers.width needed negated) (sym (k.rest ∙ demands_none m k.d)) k.bits;
    size = omega (arith, k.size, tell_none m all);
  }

  -- never more than all of them
  pub few : (i : ℕ) (needed negated : List ℕ) (lines : ℕ) → Marking r all i needed negated lines → lines ≤ 16777218
  few i needed negated lines k = omega (arith, k.size, tell_fits r all)
