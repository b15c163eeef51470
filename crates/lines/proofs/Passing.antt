-- A formula passes its demands on: what that does to the bits, and how many lines it takes.
use Rattle.std.proofs.Common.{◌≡◌, ℕ, zero, suc, ◌+◌, ◌-◌, ◌*◌, ◌<◌, ◌≤◌, min, max, Bool, true, false, cond, not, ◌&&◌, ◌||◌, T, eqb, List, length, sym, refl, ap, ◌∙◌, subst, ap₂, add-zero, add-suc, arith}
use Rattle.lts.specs.Machine.{Machine}
use Rattle.lts.specs.Formula.{top, neg, satisfies}
use Rattle.theory.specs.Blocks.{count}
use Rattle.theory.specs.Births.{Birth, formulas, births}
use Rattle.theory.specs.Rows.{answer}
use Rattle.theory.specs.Told.{Demands, demand, passed_on, lines_for}
use Rattle.theory.proofs.Demanded.{term_below}
use Rattle.theory.proofs.Joining.{extends_rest, from_oldest_extends}
use Rattle.theory.proofs.Least.{formulas_length}
use Rattle.lent.specs.Bits.{bit_at, bits_set}
use Rattle.formulas.specs.Link.{birth_at, births_of, row_of}
use Rattle.formulas.proofs.Linking.{births_length}
use Rattle.refine.specs.declared.refined.Refined.{Refined}
use Rattle.refine.specs.Refined.{machine_in}
use Rattle.lines.specs.Terms.{older, has_term, TermsAre}
use Rattle.lines.specs.Marked.{Demanded, Passed}
use Rattle.lines.proofs.Known.{in_births, reach_below}

-- bits of tests
pub bit_true : (c : Bool) → ◌≡◌ {A = ℕ} (cond c 1 0) 1 → c ≡ true
bit_true true e = refl
bit_true false e = absurd (omega arith)

pub bit_false : (c : Bool) → (◌≡◌ {A = ℕ} (cond c 1 0) 1 → ⊥) → c ≡ false
bit_false true h = absurd (h refl)
bit_false false h = refl

pub bit_back : (c : Bool) → eqb (cond c 1 0) 1 ≡ c
bit_back true = refl
bit_back false = refl

either_bit : (a b : Bool) → max (cond a 1 0) (cond b 1 0) ≡ cond (a || b) 1 0
either_bit true true = refl
either_bit true false = refl
either_bit false true = refl
either_bit false false = refl

lacking_bit : (n t a o : Bool) → (T t → a ≡ o) → max (cond n 1 0) (min (cond t 1 0) (1 - cond a 1 0)) ≡ cond (n || (t && not o)) 1 0
lacking_bit n true a o h = subst (λ x. max (cond n 1 0) (min 1 (1 - cond x 1 0)) ≡ cond (n || not o) 1 0) (sym (h tt)) (go n o)
  where
    go : (n o : Bool) → max (cond n 1 0) (min 1 (1 - cond o 1 0)) ≡ cond (n || not o) 1 0
    go true true = refl
    go true false = refl
    go false true = refl
    go false false = refl
lacking_bit true false true o h = refl
lacking_bit true false false o h = refl
lacking_bit false false true o h = refl
lacking_bit false false false o h = refl

-- bits that tell a test count those that pass it
bits_count : (ws : List ℕ) (f : ℕ → Bool) → ((q : ℕ) → bit_at ws q ≡ cond (f q) 1 0) → (n : ℕ) → bits_set ws n ≡ count f n
unfolding count
bits_count ws f h zero = refl
bits_count ws f h (suc n) = ap₂ ◌+◌ (h n) (bits_count ws f h n)

-- where none passes from j on, those below j are all
count_all : (f : ℕ → Bool) (j k : ℕ) → ((i : ℕ) → j ≤ i → f i ≡ false) → count f (j + k) ≡ count f j
unfolding count
count_all f j zero h = ap (count f) (add-zero j)
count_all f j (suc k) h = ap (count f) (add-suc j k) ∙ ap (λ c. cond c 1 0 + count f (j + k)) (h (j + k) (omega arith)) ∙ omega (arith, count_all f j k h)

module _ (r : Refined) (j : ℕ) (l : j < r.counts.formulas) where
  abbrev m : Machine
  m = machine_in r

  abbrev b : Birth
  b = birth_at r.births.now j

  abbrev bs : List Birth
  bs = births_of r.births.now j

  how_old : length bs ≡ j
  how_old = births_length r.births.now j

  pub within : j < 32 * r.answers.width
  within = omega (arith, r.done.link.room, ap length r.done.born, births_length r.births.now r.counts.formulas)

  -- no term is as new as its formula
  terms_end : (i : ℕ) → j ≤ i → has_term r j i ≡ false
  terms_end i o = go (has_term r j i) (λ t. omega (arith, term_below m (older r j) b i t, formulas_length m bs, how_old))
    where
      go : (c : Bool) → (T c → ⊥) → c ≡ false
      go true n = absurd (n tt)
      go false n = refl

  -- a formula that isn't needed passes nothing on
  pub not_needed : (needed negated : List ℕ) → eqb (bit_at needed j) 1 ≡ false → (d : Demands) → Demanded d r.answers.width needed negated → Passed r j d needed negated 0
  not_needed needed negated z d k =
      let no : d.need j ≡ false = sym (bit_back (d.need j)) ∙ sym (ap (λ x. eqb x 1) (k.need j within)) ∙ z in
      let same : passed_on m b bs d ≡ d = ap (λ c. cond c (demand m (formulas m bs) b d) d) (ap d.need how_old ∙ no) in
      record {
        bits = subst (λ (x : Demands). Demanded x r.answers.width needed negated) (sym same) k;
        size = sym (ap (λ c. cond c (lines_for (count (has_term r j) j) (d.negated j)) 0) no);
      }

  -- answers by the older formulas are answers by all
  pub answers_same : (q : ℕ) → T (has_term r j q) → answer m (formulas m (births m)) q b.reach ≡ answer m (older r j) q b.reach
  answers_same q t = ap (λ f. satisfies m f b.reach) (from_oldest_extends m (neg top) q (extends_rest (in_births r j l)) (omega (arith, term_below m (older r j) b q t, formulas_length m bs)))

  module _ (needed negated mask needed' negated' : List ℕ) (terms : TermsAre r j mask) (wide : length mask ≡ r.answers.width)
      (one : (q : ℕ) → bit_at needed' q ≡ max (bit_at needed q) (bit_at mask q))
      (two : (q : ℕ) → bit_at negated' q ≡ max (bit_at negated q) (min (bit_at mask q) (1 - bit_at (row_of r.answers.rows.now r.answers.width b.reach) q))) where
    -- the terms are as many as the mask has bits
    pub how_many : bits_set mask (32 * length mask) ≡ count (has_term r j) j
    how_many =
        let n : 32 * length mask ≡ j + (32 * r.answers.width - j) = omega (arith, within) in
        ap (bits_set mask) n ∙ bits_count mask (has_term r j) terms (j + (32 * r.answers.width - j)) ∙ count_all (has_term r j) j (32 * r.answers.width - j) terms_end

    demanded : (d : Demands) → Demanded d r.answers.width needed negated → Demanded (demand m (formulas m bs) b d) r.answers.width needed' negated'
    demanded d k = record {
      need = λ q o. one q ∙ ap₂ max (k.need q o) (terms q) ∙ either_bit (d.need q) (has_term r j q);
      negate = λ q o.
          two q ∙ ap₂ max (k.negate q o) (ap₂ min (terms q) (ap (λ x. 1 - x) (r.done.link.bits b.reach q (reach_below r j l) o)))
          ∙ lacking_bit (d.negated q) (has_term r j q) (answer m (formulas m (births m)) q b.reach) (answer m (older r j) q b.reach) (answers_same q);
    }

    own_bit : bit_at negated' j ≡ bit_at negated j
    own_bit = let z = terms j ∙ ap (λ c. cond c 1 0) (terms_end j (omega arith)) in omega (arith, two j)

    -- a needed formula passes its terms on
    pub needed_passes : (lines : ℕ) → eqb (bit_at needed j) 1 ≡ true → lines ≡ lines_for (bits_set mask (32 * length mask)) (eqb (bit_at negated' j) 1)
        → (d : Demands) → Demanded d r.answers.width needed negated → Passed r j d needed' negated' lines
    needed_passes lines z e d k =
        let is : d.need j ≡ true = sym (bit_back (d.need j)) ∙ sym (ap (λ x. eqb x 1) (k.need j within)) ∙ z in
        let more : passed_on m b bs d ≡ demand m (formulas m bs) b d = ap (λ c. cond c (demand m (formulas m bs) b d) d) (ap d.need how_old ∙ is) in
        let own : eqb (bit_at negated' j) 1 ≡ d.negated j = ap (λ x. eqb x 1) (own_bit ∙ k.negate j within) ∙ bit_back (d.negated j) in
        record {
          bits = subst (λ (x : Demands). Demanded x r.answers.width needed' negated') (sym more) (demanded d k);
          size = e ∙ ap₂ lines_for how_many own ∙ sym (ap (λ c. cond c (lines_for (count (has_term r j) j) (d.negated j)) 0) is);
        }
