-- What is proved of the lines that are told of two states.
use Rattle.std.proofs.Common.{◌≡◌, ℕ, zero, suc, ◌+◌, ◌-◌, ◌*◌, ◌<◌, ◌≤◌, Bool, true, false, cond, not, ◌&&◌, T, eqb, List, [], ◌∷◌, ◌++◌, length, sym, refl, ap, ◌∙◌, subst, true≢false, suc-mul, mul-le-mul, mul-suc, arith, length-append}
use mathlib.Core.Option.{Option, some, none}
use Rattle.lts.specs.Machine.{Machine}
use Rattle.lts.specs.Formula.{Formula, top, neg, and, dia}
use Rattle.lts.specs.Line.{Line, top_line, neg_line, and_line, dia_line, nth, given, line_formula, said_after, said}
use Rattle.theory.specs.Together.{Closed}
use Rattle.theory.specs.Births.{Birth, alike, formulas, births, Extends, begun}
use Rattle.theory.specs.Rows.{answer, first, first_formula}
use Rattle.theory.specs.Told.{Demands, is_term, demands, demand_one, Joined, join, joined, Text, terms_told, with_negation, formula_told, tell, asked, told_of, sayings, all_said, LineUses, UsesEarlier}
use Rattle.theory.specs.Parts.{NeedsTerms}
use Rattle.theory.proofs.Bools.{T-is, is_T, and_in}
use Rattle.theory.proofs.Answers.{first_below}
use Rattle.theory.proofs.Bounds.{births_below_states}
use Rattle.theory.proofs.Growth.{rounds_settled}
use Rattle.theory.proofs.Least.{formulas_length}
use Rattle.theory.proofs.Saying.{run_said, run_sayings, nth_below}
use Rattle.theory.proofs.Demanded.{demanded, demands_above}
use Rattle.theory.proofs.Lines.{Stands, stands, formula_at}
use Rattle.std.proofs.lemmas.Bool.{eq-eqb, ne_eqb}

-- the text of what is demanded down the list stands
pub told_stands : (m : Machine) (d : Demands) (bs : List Birth) → Stands m (demands m bs d) bs (tell m (demands m bs d) bs) (all_said m (demands m bs d) bs)
told_stands m d bs = stands m (demands m bs d) (λ b cs e h n i t. demanded n m d b cs e h i t) bs begun

-- where one formula is demanded, it is needed, nothing newer is, and it is negated as demanded
module _ (m : Machine) (bs : List Birth) (j : ℕ) (n : Bool) where
  abbrev d : Demands
  d = demands m bs (demand_one j n)

  none_newer : (k : ℕ) → j < k → (demand_one j n).need k ≡ false
  none_newer k h = ne_eqb k j (λ e. omega arith)

  pub one_needed : T (d.need j)
  one_needed = is_T (d.need j) (demands_above true m bs (demand_one j n) j none_newer j (omega arith) ∙ eq-eqb j j refl)

  pub newer_not : (k : ℕ) → j < k → T (d.need k) → ⊥
  newer_not k h g = true≢false (sym (T-is (d.need k) g) ∙ demands_above true m bs (demand_one j n) j none_newer k (omega arith) ∙ none_newer k h)

  pub one_negated : d.negated j ≡ n
  one_negated = demands_above false m bs (demand_one j n) j none_newer j (omega arith) ∙ ap (λ c. c && n) (eq-eqb j j refl)

negated_term : (c : Bool) (f : Formula) → cond (not c) (neg f) f ≡ cond c f (neg f)
negated_term true f = refl
negated_term false f = refl

-- the last line says the first formula with different answers, or its negation
pub told_lines_say : (m : Machine) (s t : ℕ) → T (not (alike m (births m) s t)) → said (told_of m s t).lines ≡ some (first_formula m (births m) s t)
told_lines_say m s t h =
    let bs = births m in
    let fs = formulas m bs in
    let j = first m fs s t in
    let n = not (answer m fs j s) in
    let x = told_stands m (demand_one j n) bs in
    let l : j < length bs = omega (arith, first_below m fs s t h, formulas_length m bs) in
    let e = x.ends j l (one_needed m bs j n) (λ k p q. newer_not m bs j n k p) in
    run_said [] top (told_of m s t).lines (all_said m (asked m s t) bs) x.last x.runs
    ∙ ap some (e ∙ ap (λ c. cond c (neg (formula_at m bs j)) (formula_at m bs j)) (one_negated m bs j n) ∙ negated_term (answer m fs j s) (formula_at m bs j))

pub lines_say_what_is_needed : (m : Machine) (s t : ℕ) → sayings [] (told_of m s t).lines ≡ some (all_said m (asked m s t) (births m))
lines_say_what_is_needed m s t =
    let bs = births m in
    let fs = formulas m bs in
    let j = first m fs s t in
    let x = told_stands m (demand_one j (not (answer m fs j s))) bs in
    run_sayings [] top (told_of m s t).lines (all_said m (asked m s t) bs) x.last x.runs

pub needed_need_their_terms : (m : Machine) (s t : ℕ) (b : Birth) (bs : List Birth) → Extends (births m) (b ∷ bs) → T ((asked m s t).need (length bs)) → NeedsTerms m (asked m s t) bs b
needed_need_their_terms m s t b bs e h =
    let fs = formulas m (births m) in
    let j = first m fs s t in
    let d = demand_one j (not (answer m fs j s)) in
    record { terms = λ i g. demanded true m d b bs e h i g; negations = λ i g n. demanded false m d b bs e h i (and_in (is_term m (formulas m bs) b i) (not (answer m (formulas m bs) i b.reach)) g n) }

pub needed_is_found_again : (m : Machine) (s t u v : ℕ) → T (not (alike m (births m) u v)) → T ((asked m s t).need (first m (formulas m (births m)) u v))
    → nth (all_said m (asked m s t) (births m)) ((told_of m s t).place (first m (formulas m (births m)) u v)) ≡ some (formula_at m (births m) (first m (formulas m (births m)) u v))
needed_is_found_again m s t u v h g =
    let bs = births m in
    let fs = formulas m bs in
    let j = first m fs s t in
    let l : first m fs u v < length bs = omega (arith, first_below m fs u v h, formulas_length m bs) in
    ((told_stands m (demand_one j (not (answer m fs j s))) bs).placed (first m fs u v) l g).1

pub needed_has_one_line : (m : Machine) (s t i k : ℕ) → i < k → k < length (births m) → T ((asked m s t).need i) → T ((asked m s t).need k) → (told_of m s t).place i < (told_of m s t).place k
needed_has_one_line m s t =
    let fs = formulas m (births m) in
    let j = first m fs s t in
    (told_stands m (demand_one j (not (answer m fs j s))) (births m)).rising

-- a line that says something uses what is there
given_some : {A C : Type 0} (o : Option A) (k : A → Option C) (c : C) → given o none k ≡ some c → (a : A) × (o ≡ some a) × (k a ≡ some c)
given_some none k c e = absurd (let z : ◌≡◌ {A = ℕ} 0 1 = cc in omega arith)
given_some (some a) k c e = (a, refl, e)

line_uses : (fs : List Formula) (l : Line) (g : Formula) → line_formula fs l ≡ some g → LineUses (length fs) l
line_uses fs top_line g e = tt
line_uses fs (neg_line i) g e = let (f, p, q) = given_some (nth fs i) (λ f. some (neg f)) g e in nth_below fs i f p
line_uses fs (and_line i j) g e =
    let (f, p, q) = given_some (nth fs i) (λ f. given (nth fs j) none (λ g. some (and f g))) g e in
    let (k, r, o) = given_some (nth fs j) (λ g. some (and f g)) g q in
    (nth_below fs i f p, nth_below fs j k r)
line_uses fs (dia_line a i) g e = let (f, p, q) = given_some (nth fs i) (λ f. some (dia a f)) g e in nth_below fs i f p

uses_after : (fs : List Formula) (f : Formula) (ls : List Line) (g : Formula) → said_after fs f ls ≡ some g → UsesEarlier (length fs) ls
uses_after fs f [] g e = tt
uses_after fs f (l ∷ ls) g e =
    let (h, p, q) = given_some (line_formula fs l) (λ h. said_after (fs ++ (h ∷ [])) h ls) g e in
    let o : length (fs ++ (h ∷ [])) ≡ suc (length fs) = omega (arith, length-append fs (h ∷ [])) in
    (line_uses fs l h p, subst (λ n. UsesEarlier n ls) o (uses_after (fs ++ (h ∷ [])) h ls g q))

pub lines_use_earlier : (ls : List Line) (f : Formula) → said ls ≡ some f → UsesEarlier 0 ls
lines_use_earlier ls f e = uses_after [] top ls f e

-- at most one line for each term
joined_few : (is : ℕ → Bool) (line : ℕ → ℕ) (n k : ℕ) → length (joined is line n k).ands ≤ k
joined_few is line n zero = omega arith
joined_few is line n (suc k) = go (is k) (joined is line n k) (joined_few is line n k)
  where
    join_few : (c : Bool) (j : Joined) (t : ℕ) → length (cond {A = Joined} c (record { ands = j.ands; at = t }) (record { ands = j.ands ++ (and_line j.at t ∷ []); at = n + length j.ands })).ands ≤ suc (length j.ands)
    join_few true j t = omega arith
    join_few false j t = omega (arith, length-append j.ands (and_line j.at t ∷ []))

    go : (c : Bool) (j : Joined) → length j.ands ≤ k → length (cond {A = Joined} c (join n (line k) j) j).ands ≤ suc k
    go true j h = omega (arith, join_few (eqb j.at 0) j (line k))
    go false j h = omega arith

negation_few : (n : Bool) (l : Line) (k : ℕ) → length (with_negation n l k) ≤ 2
negation_few true l k = omega arith
negation_few false l k = omega arith

-- so many lines at most for so many births
pub tell_few : (m : Machine) (d : Demands) (bs : List Birth) → length (tell m d bs).lines ≤ 1 + length bs * suc (length bs)
unfolding tell
tell_few m d [] = omega arith
tell_few m d (b ∷ bs) = go (d.need (length bs)) (tell m d bs) (tell_few m d bs)
  where
    go : (c : Bool) (x : Text) → length x.lines ≤ 1 + length bs * suc (length bs) → length (cond {A = Text} c (formula_told m d b bs x) x).lines ≤ 1 + suc (length bs) * suc (suc (length bs))
    go true x h =
        let j = terms_told m b bs x in
        let more = with_negation (d.negated (length bs)) (dia_line b.label j.at) (length x.lines + length j.ands) in
        omega (
          arith,
          length-append x.lines (j.ands ++ more),
          length-append j.ands more,
          joined_few (is_term m (formulas m bs) b) (λ i. cond (answer m (formulas m bs) i b.reach) (x.place i) (suc (x.place i))) (length x.lines) (length bs),
          negation_few (d.negated (length bs)) (dia_line b.label j.at) (length x.lines + length j.ands),
          suc-mul (length bs) (suc (suc (length bs))),
          mul-suc (length bs) (suc (length bs)),
        )
    go false x h = omega (arith, suc-mul (length bs) (suc (suc (length bs))), mul-suc (length bs) (suc (length bs)))

pub few_lines : (m : Machine) → Closed m → (s t : ℕ) → length (told_of m s t).lines ≤ 1 + m.states * (length m.transitions + 2 * m.states)
few_lines m closed s t =
    let l = births_below_states m m.states (births m) (rounds_settled m closed m.states).born in
    let few = tell_few m (asked m s t) (births m) in
    let up : length (births m) * suc (length (births m)) ≤ m.states * (length m.transitions + 2 * m.states) = few_products (length (births m)) m.states (length m.transitions) l in
    omega arith
  where
    few_products : (b n g : ℕ) → b ≤ n - 1 → b * suc b ≤ n * (g + 2 * n)
    few_products zero n g h = omega (arith, suc-mul zero 1)
    few_products (suc b) n g h = mul-le-mul {n₁ = suc b} {m₁ = suc (suc b)} {n₂ = n} {m₂ = g + 2 * n} (omega arith) (omega arith)
