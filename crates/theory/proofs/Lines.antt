-- The told lines: each needed formula stands at its place, and the last line tells the two states apart.
use Rattle.std.proofs.Common.{◌≡◌, ℕ, suc, ◌+◌, ◌<◌, ◌≤◌, Bool, true, false, cond, not, T, List, [], ◌∷◌, ◌++◌, length, sym, refl, ap, ◌∙◌, subst, inl, inr, true≢false, append_assoc, append-nil, arith, length-append}
use mathlib.Core.Option.{some}
use Rattle.lts.specs.Machine.{Machine}
use Rattle.lts.specs.Formula.{Formula, top, neg}
use Rattle.lts.specs.Line.{Line, dia_line, nth}
use Rattle.theory.specs.Births.{Birth, term, body, formula, formulas, Extends, begun}
use Rattle.theory.specs.Rows.{from_oldest, answer}
use Rattle.theory.specs.Told.{Demands, is_term, Text, term_line, terms_told, with_negation, formula_told, tell, conjunctions, formula_said, all_said}
use Rattle.theory.proofs.Bools.{T-is, and_in, is_T}
use Rattle.theory.proofs.Counting.{below_suc}
use Rattle.theory.proofs.Answers.{from_oldest_new, from_oldest_old}
use Rattle.theory.proofs.Least.{formulas_length}
use Rattle.theory.proofs.Saying.{Run, run_on, nth_below, nth_stays, nth_next, neg_says, dia_says}
use Rattle.theory.proofs.Demanded.{extra, part, term_below}
use Rattle.theory.proofs.Joining.{BodyTold, body_told, extends_rest}
use Rattle.std.proofs.lemmas.Bool.{eq-eqb, ne_eqb}

-- formula i of the births, counted from the oldest
abbrev pub formula_at : Machine → List Birth → ℕ → Formula
formula_at m bs i = from_oldest (neg top) (formulas m bs) i

-- a line of it, and one of its negation
abbrev either : Bool → Formula → Formula
either n f = cond n (neg f) f

-- the text for births bs says fs: the needed formulas at their places, and last the newest needed one or its negation
pub record Stands (m : Machine) (d : Demands) (bs : List Birth) (x : Text) (fs : List Formula) : Type 0 where
  pub last : Formula
  pub runs : Run [] top x.lines fs last
  pub long : length fs ≡ length x.lines
  pub tops : nth fs 0 ≡ some top
  pub placed : (i : ℕ) → i < length bs → T (d.need i) → (1 ≤ x.place i) × (nth fs (x.place i) ≡ some (formula_at m bs i))
  pub denied : (i : ℕ) → i < length bs → T (d.need i) → T (d.negated i) → nth fs (suc (x.place i)) ≡ some (neg (formula_at m bs i))
  pub rising : (i k : ℕ) → i < k → k < length bs → T (d.need i) → T (d.need k) → x.place i < x.place k
  pub ends : (i : ℕ) → i < length bs → T (d.need i) → ((k : ℕ) → i < k → k < length bs → T (d.need k) → ⊥) → last ≡ either (d.negated i) (formula_at m bs i)

-- the newest formula, and the others, where one birth is added
at_new : (m : Machine) (b : Birth) (bs : List Birth) (i : ℕ) → i ≡ length bs → formula_at m (b ∷ bs) i ≡ formula m (formulas m bs) b
at_new m b bs i e = ap (formula_at m (b ∷ bs)) (e ∙ sym (formulas_length m bs)) ∙ from_oldest_new (neg top) (formula m (formulas m bs) b) (formulas m bs)

at_old : (m : Machine) (b : Birth) (bs : List Birth) (i : ℕ) → i < length bs → formula_at m (b ∷ bs) i ≡ formula_at m bs i
at_old m b bs i h = from_oldest_old (neg top) (formula m (formulas m bs) b) (formulas m bs) i (omega (arith, formulas_length m bs))

module _ (m : Machine) (d : Demands) where
  -- a formula that isn't needed adds nothing
  skipped : (b : Birth) (bs : List Birth) (x : Text) (fs : List Formula) → Stands m d bs x fs → d.need (length bs) ≡ false → Stands m d (b ∷ bs) x fs
  skipped b bs x fs h z = record {
    last = h.last;
    runs = h.runs;
    long = h.long;
    tops = h.tops;
    placed = λ i l g. let o = older i l g in let (p, q) = h.placed i o g in (p, q ∙ ap some (sym (at_old m b bs i o)));
    denied = λ i l g n. let o = older i l g in h.denied i o g n ∙ ap (λ (f : Formula). some (neg f)) (sym (at_old m b bs i o));
    rising = λ i k p l g t. h.rising i k p (older k l t) g t;
    ends = λ i l g n. let o = older i l g in h.ends i o g (λ k p q. n k p (omega arith)) ∙ ap (either (d.negated i)) (sym (at_old m b bs i o));
  }
    where
      older : (i : ℕ) → i < length (b ∷ bs) → T (d.need i) → i < length bs
      older i l g = elim (below_suc i (length bs) l) [
        | inl o ↦ o
        | inr o ↦ absurd (true≢false (sym (T-is (d.need i) g) ∙ ap d.need o ∙ z))
      ]

  -- the lines of one formula more
  module _ (b : Birth) (bs : List Birth) (x : Text) (fs : List Formula) (h : Stands m d bs x fs)
      (closed : (n : Bool) (i : ℕ) → T (extra n m (formulas m bs) b i) → T (part n d i)) where
    abbrev f : Formula
    f = formula m (formulas m bs) b

    abbrev n : Bool
    n = d.negated (length bs)

    abbrev cs : List Formula
    cs = conjunctions m (formulas m bs) b.label b.reach b.lack

    abbrev at : ℕ
    at = length x.lines + length (terms_told m b bs x).ands

    -- each term has its line
    pub term_stands : (i : ℕ) → T (is_term m (formulas m bs) b i)
        → (1 ≤ term_line (answer m (formulas m bs) i b.reach) (x.place i)) × (nth fs (term_line (answer m (formulas m bs) i b.reach) (x.place i)) ≡ some (term m (formula_at m bs i) b.reach))
    term_stands i t =
        let l : i < length bs = omega (arith, term_below m (formulas m bs) b i t, formulas_length m bs) in
        let (p, q) = h.placed i l (closed true i t) in
        go (answer m (formulas m bs) i b.reach) p q (λ g. h.denied i l (closed true i t) (closed false i (and_in (is_term m (formulas m bs) b i) (not (answer m (formulas m bs) i b.reach)) t g)))
      where
        go : (c : Bool) → 1 ≤ x.place i → nth fs (x.place i) ≡ some (formula_at m bs i) → (T (not c) → nth fs (suc (x.place i)) ≡ some (neg (formula_at m bs i)))
            → (1 ≤ term_line c (x.place i)) × (nth fs (term_line c (x.place i)) ≡ some (cond c (formula_at m bs i) (neg (formula_at m bs i))))
        go true p q r = (p, q)
        go false p q r = (omega arith, r tt)

    told_body : BodyTold fs h.last (length x.lines) (terms_told m b bs x) cs (body m (formulas m bs) b.label b.reach b.lack)
    told_body = body_told fs h.last (length x.lines) h.long h.tops m b (λ i. term_line (answer m (formulas m bs) i b.reach) (x.place i)) term_stands bs begun

    here : length (fs ++ cs) ≡ at
    here = omega (arith, length-append fs cs, told_body.many, h.long)

    -- the formula's line and its negation's
    formula_runs : (n : Bool) → Run (fs ++ cs) told_body.last (with_negation n (dia_line b.label (terms_told m b bs x).at) at) ((fs ++ cs) ++ (f ∷ cond n (neg f ∷ []) [])) (either n f)
    formula_runs true =
        let line = dia_says (fs ++ cs) b.label (terms_told m b bs x).at (body m (formulas m bs) b.label b.reach b.lack) told_body.says in
        let there = subst (λ k. nth ((fs ++ cs) ++ (f ∷ [])) k ≡ some f) here (nth_next (fs ++ cs) f []) in
        (f, line, (neg f, neg_says ((fs ++ cs) ++ (f ∷ [])) at f there, (sym (append_assoc (fs ++ cs) (f ∷ []) (neg f ∷ [])), refl)))
    formula_runs false =
        let line = dia_says (fs ++ cs) b.label (terms_told m b bs x).at (body m (formulas m bs) b.label b.reach b.lack) told_body.says in
        (f, line, (refl, refl))

    abbrev said : List Formula
    said = fs ++ formula_said m (formulas m bs) b n

    assoc : (fs ++ cs) ++ (f ∷ cond n (neg f ∷ []) []) ≡ said
    assoc = append_assoc fs cs (f ∷ cond n (neg f ∷ []) [])

    all_run : Run [] top (formula_told m d b bs x).lines said (either n f)
    all_run =
        let front = run_on fs h.last (terms_told m b bs x).ands (fs ++ cs) told_body.last (with_negation n (dia_line b.label (terms_told m b bs x).at) at) ((fs ++ cs) ++ (f ∷ cond n (neg f ∷ []) [])) (either n f) told_body.runs (formula_runs n) in
        run_on [] top x.lines fs h.last ((terms_told m b bs x).ands ++ with_negation n (dia_line b.label (terms_told m b bs x).at) at) said (either n f) h.runs
        (subst (λ (ys : List Formula). Run fs h.last ((terms_told m b bs x).ands ++ with_negation n (dia_line b.label (terms_told m b bs x).at) at) ys (either n f)) assoc front)

    both_long : (n : Bool) (l : Line) (k : ℕ) → length (with_negation n l k) ≡ length (f ∷ cond n (neg f ∷ []) [])
    both_long true l k = refl
    both_long false l k = refl

    as_long : length said ≡ length (formula_told m d b bs x).lines
    as_long =
        let j = terms_told m b bs x in
        let l = dia_line b.label j.at in
        omega (
          arith,
          length-append fs (formula_said m (formulas m bs) b n),
          length-append cs (f ∷ cond n (neg f ∷ []) []),
          length-append x.lines (j.ands ++ with_negation n l at),
          length-append j.ands (with_negation n l at),
          both_long n l at,
          told_body.many,
          h.long,
        )

    -- the newest stands where its line is
    new_placed : nth said at ≡ some f
    new_placed = subst (λ (ys : List Formula). nth ys at ≡ some f) assoc (subst (λ k. nth ((fs ++ cs) ++ (f ∷ cond n (neg f ∷ []) [])) k ≡ some f) here (nth_next (fs ++ cs) f (cond n (neg f ∷ []) [])))

    new_denied : T n → nth said (suc at) ≡ some (neg f)
    new_denied g =
        let more : nth (((fs ++ cs) ++ (f ∷ [])) ++ (neg f ∷ [])) (suc at) ≡ some (neg f) =
        subst (λ k. nth (((fs ++ cs) ++ (f ∷ [])) ++ (neg f ∷ [])) k ≡ some (neg f)) (omega (arith, length-append (fs ++ cs) (f ∷ []), here)) (nth_next ((fs ++ cs) ++ (f ∷ [])) (neg f) []) in
        let flat : nth ((fs ++ cs) ++ (f ∷ (neg f ∷ []))) (suc at) ≡ some (neg f) = subst (λ (ys : List Formula). nth ys (suc at) ≡ some (neg f)) (append_assoc (fs ++ cs) (f ∷ []) (neg f ∷ [])) more in
        subst (λ (ys : List Formula). nth ys (suc at) ≡ some (neg f)) assoc (subst (λ c. nth ((fs ++ cs) ++ (f ∷ cond c (neg f ∷ []) [])) (suc at) ≡ some (neg f)) (sym (T-is n g)) flat)

    place_new : (i : ℕ) → i ≡ length bs → (formula_told m d b bs x).place i ≡ at
    place_new i e = ap (λ c. cond c at (x.place i)) (eq-eqb i (length bs) e)

    place_old : (i : ℕ) → i < length bs → (formula_told m d b bs x).place i ≡ x.place i
    place_old i l = ap (λ c. cond c at (x.place i)) (ne_eqb i (length bs) (λ e. omega arith))

    some_lines : 1 ≤ at
    some_lines = omega (arith, nth_below fs 0 top h.tops, h.long)

    added : T (d.need (length bs)) → Stands m d (b ∷ bs) (formula_told m d b bs x) said
    added need = record {
      last = either n f;
      runs = all_run;
      long = as_long;
      tops = nth_stays fs (formula_said m (formulas m bs) b n) 0 top h.tops;
      placed = λ i l g. elim (below_suc i (length bs) l) [
        | inl o ↦
            let (p, q) = h.placed i o g in
            let e = place_old i o in
            (omega arith, ap (nth said) e ∙ nth_stays fs (formula_said m (formulas m bs) b n) (x.place i) (formula_at m bs i) q ∙ ap some (sym (at_old m b bs i o)))
        | inr o ↦
            let e = place_new i o in
            let s = some_lines in
            (omega arith, ap (nth said) e ∙ new_placed ∙ ap some (sym (at_new m b bs i o)))
      ];
      denied = λ i l g t. elim (below_suc i (length bs) l) [
        | inl o ↦ ap (λ k. nth said (suc k)) (place_old i o) ∙ nth_stays fs (formula_said m (formulas m bs) b n) (suc (x.place i)) (neg (formula_at m bs i)) (h.denied i o g t) ∙ ap (λ (y : Formula). some (neg y)) (sym (at_old m b bs i o))
        | inr o ↦ ap (λ k. nth said (suc k)) (place_new i o) ∙ new_denied (subst (λ k. T (d.negated k)) o t) ∙ ap (λ (y : Formula). some (neg y)) (sym (at_new m b bs i o))
      ];
      rising = λ i k p l g t. elim (below_suc k (length bs) l) [
        | inl o ↦ let r = h.rising i k p o g t in let a = place_old i (omega arith) in let b = place_old k o in omega arith
        | inr o ↦
            let q : i < length bs = omega arith in
            let a = place_old i q in
            let b = place_new k o in
            let under = nth_below fs (x.place i) (formula_at m bs i) (h.placed i q g).1 in
            omega (arith, h.long)
      ];
      ends = λ i l g t. elim (below_suc i (length bs) l) [
        | inl o ↦ absurd (t (length bs) o (omega arith) need)
        | inr o ↦ sym (ap (either (d.negated i)) (at_new m b bs i o) ∙ ap (λ k. either (d.negated k) f) o)
      ];
    }

  one_more : (p : Bool) (b : Birth) (bs : List Birth) (x : Text) (fs : List Formula) → d.need (length bs) ≡ p → Stands m d bs x fs
      → (T (d.need (length bs)) → (n : Bool) (i : ℕ) → T (extra n m (formulas m bs) b i) → T (part n d i))
      → Stands m d (b ∷ bs) (cond p (formula_told m d b bs x) x) (fs ++ cond p (formula_said m (formulas m bs) b (d.negated (length bs))) [])
  one_more true b bs x fs e h c = let need = is_T (d.need (length bs)) e in added b bs x fs h (c need) need
  one_more false b bs x fs e h c = subst (λ (ys : List Formula). Stands m d (b ∷ bs) x ys) (sym (append-nil fs)) (skipped b bs x fs h e)

  -- where each needed formula's terms are needed, the text stands
  pub stands : {all : List Birth} → ((b : Birth) (bs : List Birth) → Extends all (b ∷ bs) → T (d.need (length bs)) → (n : Bool) (i : ℕ) → T (extra n m (formulas m bs) b i) → T (part n d i))
      → (bs : List Birth) → Extends all bs → Stands m d bs (tell m d bs) (all_said m d bs)
  unfolding tell
  stands c [] e = record {
    last = top;
    runs = (top, refl, (refl, refl));
    long = refl;
    tops = refl;
    placed = λ i l g. absurd (omega arith);
    denied = λ i l g t. absurd (omega arith);
    rising = λ i k p l g t. absurd (omega arith);
    ends = λ i l g t. absurd (omega arith);
  }
  stands c (b ∷ bs) e = one_more (d.need (length bs)) b bs (tell m d bs) (all_said m d bs) refl (stands c bs (extends_rest e)) (c b bs e)
