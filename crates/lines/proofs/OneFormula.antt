-- One formula is told, or passed over.
use Rattle.std.proofs.Common.{◌≡◌, ℕ, suc, ◌+◌, ◌^◌, ◌<◌, ◌≤◌, Bool, true, false, cond, T, eqb, List, [], ◌∷◌, ◌++◌, length, get_or, set, sym, refl, ap, ◌∙◌, subst, ap₂, inl, inr, arith, length-append, get_or-set_other, get_or-set_same}
use Rattle.lts.specs.Machine.{Machine}
use Rattle.lts.specs.Line.{Line, top_line, neg_line, dia_line}
use Rattle.theory.specs.Births.{Birth, formulas, births, Extends, begun, grown}
use Rattle.theory.specs.Rows.{answer}
use Rattle.theory.specs.Told.{Demands, demand_one, Joined, joined, Text, term_line, terms_told, with_negation, formula_told, tell, all_said}
use Rattle.theory.proofs.Bools.{T-is, is_T}
use Rattle.theory.proofs.Counting.{below_suc}
use Rattle.theory.proofs.Demanded.{demanded}
use Rattle.theory.proofs.Joining.{extends_rest}
use Rattle.theory.proofs.Lines.{Stands, stands, formula_at}
use Rattle.theory.proofs.Saying.{nth_below}
use Rattle.theory.proofs.Sizes.{tell_grows}
use Rattle.lent.specs.Bits.{bit_at}
use Rattle.formulas.specs.Link.{birth_at, births_of, row_of}
use Rattle.formulas.proofs.Linking.{births_length}
use Rattle.refine.specs.declared.refined.Refined.{Refined}
use Rattle.refine.specs.Refined.{machine_in}
use Rattle.lines.specs.Terms.{has_term, older, TermsAre}
use Rattle.lines.specs.Marked.{wanted_in, lines_up_to, Marked}
use Rattle.lines.specs.Joins.{Appends, body_by, BodyIs}
use Rattle.lines.specs.Progress.{text_to, Placed, ToldOn}
use Rattle.lines.specs.Written.{LineWritten, Written}
use Rattle.lines.specs.declared.joining.Body.{Body}
use Rattle.lines.proofs.Appending.{append_one, append_on, joined_same}
use Rattle.lines.proofs.Counted.{tell_none, tell_fits}
use Rattle.lines.proofs.Known.{in_births, reach_below}
use Rattle.lines.proofs.Writing.{written_more}
use Rattle.lines.proofs.Passing.{bit_back, within, answers_same}
use Rattle.std.proofs.lemmas.Bool.{eq-eqb, ne_eqb}

tell_next : (m : Machine) (d : Demands) (b : Birth) (bs : List Birth) (c : Bool) → d.need (length bs) ≡ c → tell m d (b ∷ bs) ≡ cond c (formula_told m d b bs (tell m d bs)) (tell m d bs)
unfolding tell
tell_next m d b bs c e = ap (λ x. cond x (formula_told m d b bs (tell m d bs)) (tell m d bs)) e

-- the first line, written where nothing was told yet
pub first_line : (r : Refined) (d : Demands) (lines lines' : List ℕ) → LineWritten lines 0 top_line lines' → Written lines (text_to r d 0).lines lines'
unfolding tell
first_line r d lines lines' w = written_more lines [] lines top_line 0 lines' (record { words = refl; rest = refl }) refl w

-- every list began as none
from_none : (bs : List Birth) → Extends bs []
from_none [] = begun
from_none (b ∷ bs) = grown (from_none bs)

-- there is always a line
pub some_line : (m : Machine) (d : Demands) (bs : List Birth) → 1 ≤ length (tell m d bs).lines
some_line m d bs = omega (arith, tell_grows m d (from_none bs), tell_none m d)

module _ (r : Refined) (f : ℕ) (n : Bool) (needed negated : List ℕ) (total : ℕ) (k : Marked r (wanted_in r f n) needed negated total) (j : ℕ) (l : j < r.counts.formulas) where
  abbrev m : Machine
  m = machine_in r

  abbrev d : Demands
  d = wanted_in r f n

  abbrev b : Birth
  b = birth_at r.births.now j

  abbrev bs : List Birth
  bs = births_of r.births.now j

  abbrev x : Text
  x = text_to r d j

  old : length bs ≡ j
  old = births_length r.births.now j

  need_bit : eqb (bit_at needed j) 1 ≡ d.need (length bs)
  need_bit = ap (λ z. eqb z 1) (k.bits.need j (within r j l)) ∙ bit_back (d.need j) ∙ sym (ap d.need old)

  negate_bit : eqb (bit_at negated j) 1 ≡ d.negated (length bs)
  negate_bit = ap (λ z. eqb z 1) (k.bits.negate j (within r j l)) ∙ bit_back (d.negated j) ∙ sym (ap d.negated old)

  -- formula j is not needed
  pub passed_over : (places lines : List ℕ) (next : ℕ) → eqb (bit_at needed j) 1 ≡ false → next ≡ lines_up_to r d j → Placed r d j places → ToldOn r d j lines next places lines
  passed_over places lines next z e p =
      let same : text_to r d (suc j) ≡ x = tell_next m d b bs false (sym need_bit ∙ z) in
      let unneeded : d.need j ≡ false = sym (ap d.need old) ∙ sym need_bit ∙ z in
      record {
        next = e ∙ sym (ap (λ (y : Text). length y.lines) same);
        placed = λ i o t. elim (below_suc i j o) [
          | inl q ↦ p i q t ∙ sym (ap (λ (y : Text). y.place i) same)
          | inr q ↦ absurd (subst T (ap d.need q ∙ unneeded) t)
        ];
        wrote = λ before w. subst (λ (y : Text). Written before y.lines lines) (sym same) w;
      }

  x_stands : Stands m d bs x (all_said m d bs)
  x_stands = stands m d (λ c cs g w o i t. demanded o m (demand_one f n) c cs g w i t) bs (extends_rest (in_births r j l))

  -- a place is the number of a line
  place_fits : (i : ℕ) → i < j → T (d.need i) → x.place i < length x.lines
  place_fits i o t =
      let (p, q) = x_stands.placed i (omega (arith, old)) t in
      omega (arith, nth_below (all_said m d bs) (x.place i) (formula_at m bs i) q, x_stands.long)

  x_few : length x.lines ≤ total
  x_few = omega (arith, tell_grows m d (extends_rest (in_births r j l)), k.size)

  pub all_few : total ≤ 16777217
  all_few = omega (arith, tell_fits r d, k.size)

  -- formula j is needed
  module _ (z : eqb (bit_at needed j) 1 ≡ true) (places mask : List ℕ) (next : ℕ) (e : next ≡ lines_up_to r d j) (p : Placed r d j places) (terms : TermsAre r j mask) where
    is_needed : T (d.need (length bs))
    is_needed = is_T (d.need (length bs)) (sym need_bit ∙ z)

    told : text_to r d (suc j) ≡ formula_told m d b bs x
    told = tell_next m d b bs true (sym need_bit ∙ z)

    abbrev row : List ℕ
    row = row_of r.answers.rows.now r.answers.width b.reach

    term_bit : (i : ℕ) → eqb (bit_at mask i) 1 ≡ has_term r j i
    term_bit i = ap (λ v. eqb v 1) (terms i) ∙ bit_back (has_term r j i)

    term_needed : (i : ℕ) → T (has_term r j i) → T (d.need i)
    term_needed i t = demanded true m (demand_one f n) b bs (in_births r j l) is_needed i t

    row_bit : (i : ℕ) → i < j → T (has_term r j i) → eqb (bit_at row i) 1 ≡ answer m (older r j) i b.reach
    row_bit i o t = ap (λ v. eqb v 1) (r.done.link.bits b.reach i (reach_below r j l) (omega (arith, within r j l)))
        ∙ bit_back (answer m (formulas m (births m)) i b.reach) ∙ answers_same r j l i t

    -- the terms are joined as the text says
    pub same_body : body_by mask row places next j ≡ terms_told m b bs x
    same_body =
        ap (λ v. body_by mask row places v j) e
        ∙ joined_same (λ i. eqb (bit_at mask i) 1) (has_term r j) (λ i. term_line (eqb (bit_at row i) 1) (get_or places i 0)) (λ i. term_line (answer m (older r j) i b.reach) (x.place i)) (length x.lines) j
        (λ i o. term_bit i) (λ i o t. ap₂ term_line (row_bit i o t) (p i o (term_needed i t)))
        ∙ ap (joined (has_term r j) (λ i. term_line (answer m (older r j) i b.reach) (x.place i)) (length x.lines)) (sym old)

    abbrev at : ℕ
    at = length x.lines + length (terms_told m b bs x).ands

    both_long : (c : Bool) (o : Line) (v : ℕ) → length (with_negation c o v) ≡ 1 + cond c 1 0
    both_long true o v = refl
    both_long false o v = refl

    -- how many lines there are then
    pub then_many : lines_up_to r d (suc j) ≡ at + (1 + cond (d.negated (length bs)) 1 0)
    then_many =
        let t = terms_told m b bs x in
        let line = dia_line b.label t.at in
        ap (λ (y : Text). length y.lines) told
        ∙ omega (
          arith,
          length-append x.lines (t.ands ++ with_negation (d.negated (length bs)) line at),
          length-append t.ands (with_negation (d.negated (length bs)) line at),
          both_long (d.negated (length bs)) line at,
        )

    -- and they have room
    pub then_few : at + (1 + cond (d.negated (length bs)) 1 0) ≤ total
    then_few = omega (arith, then_many, tell_grows m d (in_births r j l), k.size)

    -- for the negation too, if it is needed
    pub then_room : T (eqb (bit_at negated j) 1) → at + 2 ≤ total
    then_room t = omega (arith, then_few, ap {B = ℕ} (λ c. cond c 1 0) (sym negate_bit ∙ T-is (eqb (bit_at negated j) 1) t))

    -- the same of the terms as they are joined
    pub body_few : (row' : List ℕ) → row' ≡ row → next + length (body_by mask row' places next j).ands + 1 ≤ total
    body_few row' o = omega (arith, e, ap (λ w. length (body_by mask w places next j).ands) o, ap (λ (y : Joined). length y.ands) same_body, then_few)

    pub body_room : (row' : List ℕ) → row' ≡ row → T (eqb (bit_at negated j) 1) → next + length (body_by mask row' places next j).ands + 2 ≤ total
    body_room row' o t = omega (arith, e, ap (λ w. length (body_by mask w places next j).ands) o, ap (λ (y : Joined). length y.ands) same_body, then_room t)

    pub line_fits : (i : ℕ) → i < j → T (eqb (bit_at mask i) 1) → get_or places i 0 + 1 < 2 ^ 32
    line_fits i o t =
        let s = term_needed i (subst T (term_bit i) t) in
        omega (arith, p i o s, place_fits i o s, x_few, all_few)

    -- the place of formula j is noted
    noted : (i : ℕ) → i < suc j → j < length places → T (d.need i) → get_or (set places j at) i 0 ≡ (text_to r d (suc j)).place i
    noted i o w t = elim (below_suc i j o) [
      | inl q ↦
          let ne : i ≡ j → ⊥ = λ u. omega arith in
          get_or-set_other places j i at 0 ne ∙ p i q t ∙ sym (ap (λ (y : Text). y.place i) told ∙ ap (λ c. cond c at (x.place i)) (ne_eqb i (length bs) (λ u. omega (arith, old))))
      | inr q ↦
          ap (λ v. get_or (set places j at) v 0) q ∙ get_or-set_same places j at 0 w ∙ sym (ap (λ (y : Text). y.place i) told ∙ ap (λ c. cond c at (x.place i)) (eq-eqb i (length bs) (q ∙ sym old)))
    ]

    -- all lines of the formula are written
    pub told_on : (lines one two three : List ℕ) (body : Body) (next' : ℕ) → j < length places → BodyIs body next (body_by mask row places next j) → Appends lines next (body_by mask row places next j).ands one
        → LineWritten one body.next (dia_line b.label body.at.0) two
        → Appends two (body.next + 1) (cond (eqb (bit_at negated j) 1) (neg_line body.next ∷ []) []) three → next' ≡ body.next + 1 + cond (eqb (bit_at negated j) 1) 1 0
        → ToldOn r d j lines next' (set places j body.next) three
    told_on lines one two three body next' room is ands own negation count =
        let t = terms_told m b bs x in
        let at-is : body.at.0 ≡ t.at = is.at ∙ ap (λ (y : Joined). y.at) same_body in
        let next_is : body.next ≡ at = is.next ∙ ap₂ ◌+◌ e (ap (λ (y : Joined). length y.ands) same_body) in
        let line = dia_line b.label t.at in
        let more = cond (d.negated (length bs)) (neg_line at ∷ []) [] in
        let ands' : Appends lines next t.ands one = subst (λ (ls : List Line). Appends lines next ls one) (ap (λ (y : Joined). y.ands) same_body) ands in
        let own' : Appends one at (line ∷ []) two = append_one one at line two (subst (λ v. LineWritten one v line two) next_is (subst (λ v. LineWritten one body.next (dia_line b.label v) two) at-is own)) in
        let negation' : Appends two (at + 1) more three =
        subst (λ v. Appends two (v + 1) (cond (d.negated (length bs)) (neg_line v ∷ []) []) three) next_is (subst (λ c. Appends two (body.next + 1) (cond c (neg_line body.next ∷ []) []) three) negate_bit negation) in
        let rest : Appends one at (line ∷ more) three = append_on one at (line ∷ []) two (at + 1) more three refl own' negation' in
        let all : Appends lines next (t.ands ++ (line ∷ more)) three = append_on lines next t.ands one at (line ∷ more) three (ap (λ v. v + length t.ands) (sym e)) ands' rest in
        record {
          next = count ∙ ap₂ (λ u v. u + 1 + v) next_is (ap (λ c. cond c 1 0) negate_bit) ∙ omega (arith, then_many);
          placed = λ i o t. subst (λ v. get_or (set places j v) i 0 ≡ (text_to r d (suc j)).place i) (sym next_is) (noted i o room t);
          wrote = λ before w. subst (λ (y : Text). Written before y.lines three) (sym told) (all before x.lines (sym e) w);
        }
