-- What is told of two states that a formula tells apart.
use Rattle.std.proofs.Common.{◌≡◌, ℕ, ◌<◌, ◌≤◌, Bool, not, eqb, List, length, sym, refl, ap, ◌∙◌, subst}
use Rattle.lts.specs.Formula.{depth}
use Rattle.lts.specs.Machine.{Machine}
use Rattle.theory.specs.Together.{Closed}
use Rattle.theory.specs.Births.{formulas, births}
use Rattle.theory.specs.Rows.{answer, first_formula, TellsLeast}
use Rattle.theory.specs.Told.{Demands, demand_one, demands, tell, asked, told_of}
use Rattle.theory.proofs.Told.{told_lines_say, few_lines}
use Rattle.lent.specs.Bits.{bit_at}
use Rattle.formulas.specs.Link.{birth_at, row_of}
use Rattle.refine.specs.declared.refined.Refined.{Refined}
use Rattle.refine.specs.Refined.{machine_in, Tells}
use Rattle.refine.proofs.Telling.{closed_in, level_tells}
use Rattle.lines.specs.Marked.{wanted_in, Marked}
use Rattle.lines.specs.declared.needs.Needs.{Needs}
use Rattle.lines.specs.Progress.{told_by}
use Rattle.lines.specs.Written.{Written}
use Rattle.lines.proofs.OneFormula.{some_line}
use Rattle.lines.proofs.Passing.{bit_back, within}
use Rattle.lts.specs.Question.{Question, Encodes}
use Rattle.observer.specs.declared.comparison.Compared.{Compared}
use Rattle.observer.specs.declared.comparison.Compared.TheVariants.{Same, Differ, OutFull, NoMachine, Few}
use Rattle.observer.specs.Compared.{most_lines, DifferBy, StandFirst, ApartSays, ComparedSays}

module _ (r : Refined) (s t : ℕ) (hs : s < length r.answers.system.first.now) (ht : t < length r.answers.system.first.now) (j : ℕ) (w : Tells (machine_in r) r.counts.formulas s t j) where
  abbrev m : Machine
  m = machine_in r

  closed : Closed m
  closed = closed_in _ _ r.askable

  level : TellsLeast m s t (first_formula m (births m) s t) (birth_at r.births.now j).level
  level = level_tells m closed r.births.now r.counts.formulas s t j r.done.born hs ht w.within w.apart w.is

  -- d steps ahead, by all the lines that are told
  pub differ_by : (n : ℕ) → n ≡ length (told_of m s t).lines → DifferBy m s t (birth_at r.births.now j).level n
  differ_by n e = record {
    best = record {
      formula = first_formula m (births m) s t;
      is = told_lines_say m s t w.apart;
      some_line = some_line m (asked m s t) (births m);
      one = level.holds;
      other = level.fails;
      least = λ g p. level.least g (subst (λ l. depth g < l) level.deep p);
    };
    deep = sym level.deep;
    count = e;
    most = subst (λ k. k ≤ most_lines m) (sym e) (few_lines m closed s t);
  }

  -- the bit of s says whether the formula is told negated
  module _ (row : List ℕ) (is : row ≡ row_of r.answers.rows.now r.answers.width s) (negate : Bool) (n : negate ≡ not (eqb (bit_at row j) 1)) where
    same_demands : wanted_in r j negate ≡ asked m s t
    same_demands =
        let bit : eqb (bit_at row j) 1 ≡ answer m (formulas m (births m)) j s =
        ap (λ (x : List ℕ). eqb (bit_at x j) 1) is ∙ ap (λ x. eqb x 1) (r.done.link.bits s j hs (within r j w.within)) ∙ bit_back (answer m (formulas m (births m)) j s) in
        ap (λ x. demands m (births m) (demand_one j x)) (n ∙ ap not bit)
        ∙ sym (ap (λ i. demands m (births m) (demand_one i (not (answer m (formulas m (births m)) i s)))) w.is)

    pub all_told : (needed negated : List ℕ) (count : ℕ) → Marked r (wanted_in r j negate) needed negated count → count ≡ length (told_of m s t).lines
    all_told needed negated count k = k.size ∙ ap (λ (d : Demands). length (tell m d (births m)).lines) same_demands

    -- and they stand where they were written
    pub stand_first : (n : ℕ) (lines lines' : List ℕ) → n ≡ length (told_of m s t).lines → Written lines (tell m (wanted_in r j negate) (births m)).lines lines' → StandFirst m s t n lines lines'
    stand_first n lines lines' e k =
        let there = subst (λ (d : Demands). Written lines (tell m d (births m)).lines lines') same_demands k in
        subst (λ i. StandFirst m s t i lines lines') (sym e) (record { told = there.words; rest = there.rest })

  -- so it is with what is marked, and told of that
  module _ (row : List ℕ) (is : row ≡ row_of r.answers.rows.now r.answers.width s) (bit : Bool) (b : bit ≡ (eqb (bit_at row j) 1)) (n : Needs) (same : n.refined ≡ r) (wanted : (n.formula ≡ j) × (n.negate ≡ not bit)) where
    all_of : (x : Refined) → x ≡ r → wanted_in x n.formula n.negate ≡ wanted_in r j (not bit)
    all_of x e = ap (λ (y : Refined). wanted_in y n.formula n.negate) e ∙ ap (λ i. wanted_in r i n.negate) wanted.0 ∙ ap (wanted_in r j) wanted.1

    pub counted : n.lines ≡ length (told_of m s t).lines
    counted = all_told row is (not bit) (ap not b) n.needed.now n.negated.now n.lines
        (subst (λ (d : Demands). Marked r d n.needed.now n.negated.now n.lines) (all_of r refl) (subst (λ (x : Refined). Marked x (wanted_in x n.formula n.negate) n.needed.now n.negated.now n.lines) same n.marked))

    pub stands : (lines lines' : List ℕ) → Written lines (told_by n) lines' → StandFirst m s t n.lines lines lines'
    stands lines lines' w = stand_first row is (not bit) (ap not b) n.lines lines lines' counted
        (subst (λ (d : Demands). Written lines (tell m d (births m)).lines lines') (all_of r refl) (subst (λ (x : Refined). Written lines (tell (machine_in x) (wanted_in x n.formula n.negate) (births (machine_in x))).lines lines') same w))

-- what is said of the two states of a question is said of its words
pub compared_says : (words lines lines' : List ℕ) (q : Question) (r : Compared) → Encodes words q → ApartSays q.machine q.first q.second lines lines' r → ComparedSays words lines lines' r
compared_says words lines lines' q Same e h = record { question = q; encoded = e; says = h }
compared_says words lines lines' q (Differ d n) e h = record { question = q; encoded = e; says = h }
compared_says words lines lines' q (OutFull d n) e h = record { question = q; encoded = e; says = h }
compared_says words lines lines' q NoMachine e h = absurd h
compared_says words lines lines' q Few e h = absurd h
