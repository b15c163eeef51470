-- What code that marks and tells needs: how many lines a formula takes, what is demanded of it, and terms by the whole list.
use Rattle.std.proofs.Common.{◌≡◌, ℕ, zero, suc, ◌+◌, ◌<◌, ◌≤◌, max, Bool, true, false, cond, not, ◌&&◌, T, eqb, ◌⊎◌, List, [], ◌∷◌, ◌++◌, length, sym, refl, ◌∙◌, subst, inl, inr, arith, length-append}
use Rattle.lts.specs.Machine.{Machine, Step}
use Rattle.lts.specs.Formula.{top}
use Rattle.lts.specs.Line.{Line, and_line, dia_line}
use Rattle.theory.specs.Blocks.{count}
use Rattle.theory.specs.Births.{Birth, Born, AllBorn, same, alike, formula, formulas, Extends, begun, grown}
use Rattle.theory.specs.Rows.{answer, first, wanted}
use Rattle.theory.specs.Told.{Demands, is_term, demands, passed_on, Joined, join, joined, Text, term_line, terms_told, with_negation, formula_told, lines_for, tell, all_said}
use Rattle.theory.proofs.Bools.{and_in, and_1, iff_is, not_T_of}
use Rattle.theory.proofs.Steps.{any_in, any_out}
use Rattle.theory.proofs.Answers.{first_old}
use Rattle.theory.proofs.Terms.{extends_within}
use Rattle.theory.proofs.Saying.{nth_below}
use Rattle.theory.proofs.Demanded.{part, demanded, demands_keep, passed_keeps}
use Rattle.theory.proofs.Joining.{extends_rest}
use Rattle.theory.proofs.Lines.{Stands, stands, term_stands}
use Rattle.std.proofs.lemmas.Bool.{eq-eqb, ne_eqb}

-- joined terms take a line fewer than there are terms
abbrev Sized : Joined → ℕ → Type 0
Sized j c = ((c ≡ 0) × (j.at ≡ 0) × (length j.ands ≡ 0)) ⊎ ((1 ≤ j.at) × (length j.ands + 1 ≡ c))

join_size : (n t : ℕ) (j : Joined) (c : ℕ) → 1 ≤ n → 1 ≤ t → Sized j c → Sized (join n t j) (1 + c)
join_size n t j c hn ht (inl (z, a, l)) =
    subst (λ b. Sized (cond b (record { ands = j.ands; at = t }) (record { ands = j.ands ++ (and_line j.at t ∷ []); at = n + length j.ands })) (1 + c)) (sym (eq-eqb j.at 0 a))
    (inr (ht, omega arith))
join_size n t j c hn ht (inr (a, l)) =
    subst (λ b. Sized (cond b (record { ands = j.ands; at = t }) (record { ands = j.ands ++ (and_line j.at t ∷ []); at = n + length j.ands })) (1 + c)) (sym (ne_eqb j.at 0 (λ e. omega arith)))
    (inr (omega arith, omega (arith, length-append j.ands (and_line j.at t ∷ []))))

joined_size : (is : ℕ → Bool) (line : ℕ → ℕ) (n k : ℕ) → 1 ≤ n → ((i : ℕ) → i < k → T (is i) → 1 ≤ line i) → Sized (joined is line n k) (count is k)
unfolding count
joined_size is line n zero hn h = inl (refl, refl, refl)
joined_size is line n (suc k) hn h = go (is k) (h k (omega arith)) (joined_size is line n k hn (λ i l. h i (omega arith)))
  where
    go : (b : Bool) → (T b → 1 ≤ line k) → Sized (joined is line n k) (count is k) → Sized (cond b (join n (line k) (joined is line n k)) (joined is line n k)) (cond b 1 0 + count is k)
    go true l s = join_size n (line k) (joined is line n k) (count is k) hn (l tt) s
    go false l s = subst (λ c. Sized (joined is line n k) c) (omega arith) s

sized : (j : Joined) (c : ℕ) → Sized j c → length j.ands + 1 ≡ max 1 c
sized j c (inl (z, a, l)) = omega arith
sized j c (inr (a, l)) = omega arith

negation_size : (n : Bool) (l : Line) (k : ℕ) → length (with_negation n l k) ≡ 1 + cond n 1 0
negation_size true l k = refl
negation_size false l k = refl

module _ (m : Machine) (d : Demands) (b : Birth) (bs : List Birth) {all : List Birth} (e : Extends all (b ∷ bs)) where
  abbrev all_demands : Demands
  all_demands = demands m all d

  abbrev x : Text
  x = tell m all_demands bs

  x_stands : Stands m all_demands bs x (all_said m all_demands bs)
  x_stands = stands m all_demands (λ c cs g h n i t. demanded n m d c cs g h i t) bs (extends_rest e)

  formula_size : T (all_demands.need (length bs)) → length (formula_told m all_demands b bs x).lines ≡ length x.lines + lines_for (count (is_term m (formulas m bs) b) (length bs)) (all_demands.negated (length bs))
  formula_size h =
      let j = terms_told m b bs x in
      let more = with_negation (all_demands.negated (length bs)) (dia_line b.label j.at) (length x.lines + length j.ands) in
      let some_said = nth_below (all_said m all_demands bs) 0 top x_stands.tops in
      let size = sized j (count (is_term m (formulas m bs) b) (length bs)) (joined_size (is_term m (formulas m bs) b) (λ i. term_line (answer m (formulas m bs) i b.reach) (x.place i)) (length x.lines) (length bs) (omega (arith, x_stands.long))
      (λ i l t. (term_stands m all_demands b bs x (all_said m all_demands bs) x_stands (λ n k q. demanded n m d b bs e h k q) i t).0)) in
      omega (
        arith,
        length-append x.lines (j.ands ++ more),
        length-append j.ands more,
        negation_size (all_demands.negated (length bs)) (dia_line b.label j.at) (length x.lines + length j.ands),
      )

  -- one birth more adds the lines of its formula, if that is needed
  pub told_size : length (tell m all_demands (b ∷ bs)).lines ≡ length x.lines + cond (all_demands.need (length bs)) (lines_for (count (is_term m (formulas m bs) b) (length bs)) (all_demands.negated (length bs))) 0
  unfolding tell
  told_size = go (all_demands.need (length bs)) formula_size
    where
      go : (c : Bool) → (T c → length (formula_told m all_demands b bs x).lines ≡ length x.lines + lines_for (count (is_term m (formulas m bs) b) (length bs)) (all_demands.negated (length bs)))
          → length (cond {A = Text} c (formula_told m all_demands b bs x) x).lines ≡ length x.lines + cond c (lines_for (count (is_term m (formulas m bs) b) (length bs)) (all_demands.negated (length bs))) 0
      go true h = h tt
      go false h = omega arith

-- a longer list has no fewer lines
pub tell_grows : (m : Machine) (d : Demands) {all bs : List Birth} → Extends all bs → length (tell m d bs).lines ≤ length (tell m d all).lines
unfolding tell
tell_grows m d begun = omega arith
tell_grows m d (grown {b} {bs} g) = go (d.need (length bs)) (tell_grows m d g)
  where
    go : {n : ℕ} (c : Bool) → n ≤ length (tell m d bs).lines → n ≤ length (cond {A = Text} c (formula_told m d b bs (tell m d bs)) (tell m d bs)).lines
    go true h =
        let x = tell m d bs in
        let j = terms_told m b bs x in
        omega (arith, length-append x.lines (j.ands ++ with_negation (d.negated (length bs)) (dia_line b.label j.at) (length x.lines + length j.ands)))
    go false h = h

-- what is demanded of a birth when it comes is what is demanded of it in the end
pub demands_here : (n : Bool) (m : Machine) (b : Birth) (bs : List Birth) (d : Demands) → part n (demands m (b ∷ bs) d) (length bs) ≡ part n d (length bs)
unfolding demands
demands_here n m b bs d = demands_keep n m bs (passed_on m b bs d) (length bs) (omega arith) ∙ passed_keeps n m b bs d (length bs) (omega arith)

-- a birth of the list was made as its round says
pub born_in : (m : Machine) (k : ℕ) (b : Birth) (bs : List Birth) {all : List Birth} → Extends all (b ∷ bs) → AllBorn m k all → Born m bs b
born_in m k b bs begun (l, o, h) = o
born_in m k b bs (grown g) (l, o, h) = born_in m k b bs g h

-- where an older list tells two states apart, the first that does is the same in a longer list
first_extends : (m : Machine) (u v : ℕ) {all bs : List Birth} → Extends all bs → T (not (alike m bs u v)) → first m (formulas m all) u v ≡ first m (formulas m bs) u v
first_extends m u v begun h = refl
first_extends m u v (grown {b} {bs} {old} g) h =
    first_old m (formula m (formulas m bs) b) (formulas m bs) u v (not_T_of (same m (formulas m bs) u v) (alike m old u v) (extends_within m g u v) h) ∙ first_extends m u v g h

-- so the terms of a birth may be found by the whole list
pub wanted_older : (m : Machine) (a u y : ℕ) {all bs : List Birth} → Extends all bs → ((v : ℕ) → Step m y a v → T (not (alike m bs u v))) → (q : ℕ) → wanted m (formulas m all) a u y q ≡ wanted m (formulas m bs) a u y q
wanted_older m a u y {all} {bs} g h q = iff_is (wanted m (formulas m all) a u y q) (wanted m (formulas m bs) a u y q)
    (λ w.
    let (v, p, r) = any_out m.transitions y a (λ v. not (alike m all u v) && eqb (first m (formulas m all) u v) q) w in
    any_in y a v (λ v. not (alike m bs u v) && eqb (first m (formulas m bs) u v) q) p
    (and_in (not (alike m bs u v)) (eqb (first m (formulas m bs) u v) q) (h v p) (subst (λ i. T (eqb i q)) (first_extends m u v g (h v p)) (and_1 (not (alike m all u v)) (eqb (first m (formulas m all) u v) q) r))))
    (λ w.
    let (v, p, r) = any_out m.transitions y a (λ v. not (alike m bs u v) && eqb (first m (formulas m bs) u v) q) w in
    any_in y a v (λ v. not (alike m all u v) && eqb (first m (formulas m all) u v) q) p
    (and_in (not (alike m all u v)) (eqb (first m (formulas m all) u v) q) (not_T_of (alike m all u v) (alike m bs u v) (extends_within m g u v) (h v p))
    (subst (λ i. T (eqb i q)) (sym (first_extends m u v g (h v p))) (and_1 (not (alike m bs u v)) (eqb (first m (formulas m bs) u v) q) r))))
