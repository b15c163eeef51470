-- The first formula that tells two states apart, from the first bit in which their rows differ.
use Rattle.std.proofs.Common.{◌≡◌, ℕ, zero, suc, ◌+◌, ◌*◌, ◌/◌, ◌<◌, ◌≤◌, not, T, ◌⊎◌, List, length, replicate, sym, ap, ◌∙◌, subst, inl, inr, arith}
use lib.ListN.{length-replicate}
use Rattle.lts.specs.Bisimulation.{Bisimilar}
use Rattle.lts.specs.Machine.{Machine}
use Rattle.theory.specs.Together.{Closed}
use Rattle.theory.specs.Births.{Birth, formulas, alike, births}
use Rattle.theory.specs.Rows.{from_oldest, first, first_formula, TellsLeast}
use Rattle.theory.proofs.Answers.{same_answer, answer_same, from_oldest_new, from_oldest_old}
use Rattle.theory.proofs.Bools.{T-or_not}
use Rattle.theory.proofs.Growth.{rounds_settled}
use Rattle.theory.proofs.Least.{formulas_length, first_born_tells}
use Rattle.theory.proofs.Counting.{below_suc}
use Rattle.theory.proofs.Ending.{alike_bisimilar}
use Rattle.lent.specs.Bits.{FirstDifference}
use Rattle.formulas.specs.Link.{birth_at, births_of, row_of, Link}
use Rattle.formulas.proofs.Extending.{row_end}
use Rattle.chains.specs.System.{machine_of}
use Rattle.refine.specs.Askable.{Askable}
use Rattle.refine.proofs.Facts.{length_births, closed_of}
use Rattle.refine.proofs.Starting.{bounded_of}
use Rattle.formulas.proofs.Linking.{row_length, same_bits, bits_same, difference_first}

module _ (m : Machine) (closed : Closed m) (w : ℕ) (rows leads : List ℕ) (link : Link m (births m) rows w leads) (s t : ℕ) (hs : s < m.states) (ht : t < m.states) (q : ℕ) (d : FirstDifference (row_of rows w s) (row_of rows w t) q) where
  long : length (row_of rows w s) ≡ w
  long = row_length rows m.states w s link.long hs

  -- a difference among the formulas: they are told apart, first by that one
  pub told : q < length (births m) → T (not (alike m (births m) s t)) × (first m (formulas m (births m)) s t ≡ q)
  told l = elim (T-or_not (alike m (births m) s t)) [
    | inl same ↦ absurd (d.differs (omega (arith, long, link.room)) (bits_same link s t q hs ht (omega (arith, link.room)) (same_answer m (formulas m (births m)) s t q same)))
    | inr apart ↦ (apart, difference_first link s t q hs ht apart d)
  ]

  -- none: they answer alike, and so are bisimilar
  pub untold : length (births m) ≤ q → Bisimilar m s t
  untold l = alike_bisimilar m closed s t hs ht (answer_same m (formulas m (births m)) s t (λ j h.
      let short : j < length (births m) = omega (arith, formulas_length m (births m)) in
      same_bits link s t j hs ht (omega (arith, link.room)) (d.before j (omega arith))))

-- birth j of the array, by the list
pub birth_there : (d : Birth) (bw : List ℕ) (count j : ℕ) → j < count → from_oldest d (births_of bw count) j ≡ birth_at bw j
birth_there d bw zero j l = absurd (omega arith)
birth_there d bw (suc k) j l = by (birth_there d bw k j) (below_suc j k l)
  where
    by : (j < k → from_oldest d (births_of bw k) j ≡ birth_at bw j) → (j < k) ⊎ (j ≡ k) → from_oldest d (births_of bw (suc k)) j ≡ birth_at bw j
    by older (inl h) = from_oldest_old d (birth_at bw k) (births_of bw k) j (omega (arith, length_births bw k)) ∙ older h
    by older (inr e) = ap (from_oldest d (births_of bw (suc k))) (e ∙ sym (length_births bw k)) ∙ from_oldest_new d (birth_at bw k) (births_of bw k) ∙ ap (birth_at bw) (sym e)

-- what was refined: its machine is closed
pub closed_in : (n : ℕ) (ws : List ℕ) → Askable n ws → Closed (machine_of n ws)
closed_in n ws h = closed_by (length ws / 3) h.whole
  where
    closed_by : (g : ℕ) → length ws ≡ 3 * g → Closed (machine_of n ws)
    closed_by g e =
        let ns : List ℕ = replicate g 0 in
        let whole : length ws ≡ 3 * length ns = omega (arith, length-replicate {A = ℕ} g 0) in
        closed_of n ws ns whole (bounded_of n ws ns whole h.inside)

-- the rows of all states are there
pub row_inside : (m : Machine) (bs : List Birth) (rows : List ℕ) (w : ℕ) (leads : List ℕ) (s : ℕ) → Link m bs rows w leads → s < m.states → s * w + w ≤ length rows
row_inside m bs rows w leads s l h = omega (arith, l.long, row_end s m.states w h)

-- how deep the first formula is that tells two states apart: the round in which it was born
pub level_tells : (m : Machine) → Closed m → (bw : List ℕ) (count s t j : ℕ) → births_of bw count ≡ births m → s < m.states → t < m.states → j < count
    → T (not (alike m (births m) s t)) → first m (formulas m (births m)) s t ≡ j → TellsLeast m s t (first_formula m (births m) s t) (birth_at bw j).level
level_tells m closed bw count s t j e hs ht l apart f =
    let here = first_born_tells m m.states (birth_at bw j) (births m) s t (rounds_settled m closed m.states).born hs ht apart in
    let same : from_oldest (birth_at bw j) (births m) (first m (formulas m (births m)) s t) ≡ birth_at bw j =
    ap (from_oldest (birth_at bw j) (births m)) f ∙ ap (λ (bs : List Birth). from_oldest (birth_at bw j) bs j) (sym e) ∙ birth_there (birth_at bw j) bw count j l in
    subst (λ (b : Birth). TellsLeast m s t (first_formula m (births m) s t) b.level) same here
