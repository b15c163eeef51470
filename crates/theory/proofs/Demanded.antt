-- What is demanded: each needed formula's terms are needed too, and nothing that comes later takes a demand back.
use Rattle.std.proofs.Common.{◌≡◌, ℕ, ◌<◌, ◌≤◌, Bool, true, false, cond, not, ◌&&◌, ◌||◌, T, eqb, List, [], ◌∷◌, length, sym, refl, ap, ◌∙◌, subst, inl, inr, arith, eqb→eq}
use Rattle.lts.specs.Machine.{Machine}
use Rattle.lts.specs.Formula.{Formula}
use Rattle.theory.specs.Births.{Birth, same, formulas, Extends, begun, grown}
use Rattle.theory.specs.Rows.{answer, first}
use Rattle.theory.specs.Told.{Demands, is_term, demand, passed_on, demands}
use Rattle.theory.proofs.Bools.{T-is, and_0, and_1, or_0, or_1}
use Rattle.theory.proofs.Steps.{any_out}
use Rattle.theory.proofs.Answers.{first_below}
use Rattle.theory.proofs.Least.{formulas_length}
use Rattle.std.proofs.lemmas.Bool.{cases_lt}

-- which formulas are needed, or which negated
abbrev pub part : Bool → Demands → ℕ → Bool
part true d i = d.need i
part false d i = d.negated i

-- what a birth adds to them
abbrev pub extra : Bool → Machine → List Formula → Birth → ℕ → Bool
extra true m fs b i = is_term m fs b i
extra false m fs b i = is_term m fs b i && not (answer m fs i b.reach)

-- a term is older than its formula
pub term_below : (m : Machine) (fs : List Formula) (b : Birth) (i : ℕ) → T (is_term m fs b i) → i < length fs
term_below m fs b i h =
    let (v, p, q) = any_out m.transitions b.lack b.label (λ v. not (same m fs b.reach v) && eqb (first m fs b.reach v) i) h in
    let parted = and_0 (not (same m fs b.reach v)) (eqb (first m fs b.reach v) i) q in
    let e = eqb→eq (first m fs b.reach v) i (and_1 (not (same m fs b.reach v)) (eqb (first m fs b.reach v) i) q) in
    let l = first_below m fs b.reach v parted in
    omega arith

extra_below : (n : Bool) (m : Machine) (fs : List Formula) (b : Birth) (i : ℕ) → T (extra n m fs b i) → i < length fs
extra_below true m fs b i h = term_below m fs b i h
extra_below false m fs b i h = term_below m fs b i (and_0 (is_term m fs b i) (not (answer m fs i b.reach)) h)

or_no : (a b : Bool) → (T b → ⊥) → (a || b) ≡ a
or_no true b h = refl
or_no false true h = absurd (h tt)
or_no false false h = refl

demand_part : (n : Bool) (m : Machine) (fs : List Formula) (b : Birth) (d : Demands) (i : ℕ) → part n (demand m fs b d) i ≡ (part n d i || extra n m fs b i)
demand_part true m fs b d i = refl
demand_part false m fs b d i = refl

part_cond : (n c : Bool) (x y : Demands) (i : ℕ) → part n x i ≡ part n y i → part n (cond c x y) i ≡ part n y i
part_cond n true x y i e = e
part_cond n false x y i e = refl

-- a birth demands only what is older than it
pub passed_keeps : (n : Bool) (m : Machine) (b : Birth) (bs : List Birth) (d : Demands) (i : ℕ) → length bs ≤ i → part n (passed_on m b bs d) i ≡ part n d i
passed_keeps n m b bs d i h = part_cond n (d.need (length bs)) (demand m (formulas m bs) b d) d i
    (demand_part n m (formulas m bs) b d i ∙ or_no (part n d i) (extra n m (formulas m bs) b i) (λ t. omega (arith, extra_below n m (formulas m bs) b i t, formulas_length m bs)))

-- so do those after it
pub demands_keep : (n : Bool) (m : Machine) (bs : List Birth) (d : Demands) (i : ℕ) → length bs ≤ i → part n (demands m bs d) i ≡ part n d i
unfolding demands
demands_keep n m [] d i h = refl
demands_keep n m (b ∷ bs) d i h = demands_keep n m bs (passed_on m b bs d) i (omega arith) ∙ passed_keeps n m b bs d i (omega arith)

grows_cond : (n c : Bool) (x y : Demands) (i : ℕ) → T (part n x i) → T (part n y i) → T (part n (cond c x y) i)
grows_cond n true x y i h g = h
grows_cond n false x y i h g = g

-- what is demanded stays demanded
passed_grows : (n : Bool) (m : Machine) (b : Birth) (bs : List Birth) (d : Demands) (i : ℕ) → T (part n d i) → T (part n (passed_on m b bs d) i)
passed_grows n m b bs d i h = grows_cond n (d.need (length bs)) (demand m (formulas m bs) b d) d i
    (subst T (sym (demand_part n m (formulas m bs) b d i)) (or_0 (part n d i) (extra n m (formulas m bs) b i) h)) h

pub demands_grow : (n : Bool) (m : Machine) (bs : List Birth) (d : Demands) (i : ℕ) → T (part n d i) → T (part n (demands m bs d) i)
unfolding demands
demands_grow n m [] d i h = h
demands_grow n m (b ∷ bs) d i h = demands_grow n m bs (passed_on m b bs d) i (passed_grows n m b bs d i h)

-- a needed birth passes its demands on
passed_adds : (n : Bool) (m : Machine) (b : Birth) (bs : List Birth) (d : Demands) (i : ℕ) → T (d.need (length bs)) → T (extra n m (formulas m bs) b i) → T (part n (passed_on m b bs d) i)
passed_adds n m b bs d i h t = subst (λ c. T (part n (cond c (demand m (formulas m bs) b d) d) i)) (sym (T-is (d.need (length bs)) h))
    (subst T (sym (demand_part n m (formulas m bs) b d i)) (or_1 (part n d i) (extra n m (formulas m bs) b i) t))

-- so the terms of each needed formula are needed, negated where its reached state does not satisfy them
pub demanded : (n : Bool) (m : Machine) (d : Demands) (b : Birth) (cs : List Birth) {bs : List Birth} → Extends bs (b ∷ cs) → T ((demands m bs d).need (length cs))
    → (i : ℕ) → T (extra n m (formulas m cs) b i) → T (part n (demands m bs d) i)
unfolding demands
demanded n m d b cs begun h i t =
    let e = demands_keep true m cs (passed_on m b cs d) (length cs) (omega arith) ∙ passed_keeps true m b cs d (length cs) (omega arith) in
    demands_grow n m cs (passed_on m b cs d) i (passed_adds n m b cs d i (subst T e h) t)
demanded n m d b cs (grown {b = c} {bs} g) h i t = demanded n m (passed_on m c bs d) b cs g h i t

not_passed : (m : Machine) (b : Birth) (bs : List Birth) (d : Demands) → d.need (length bs) ≡ false → passed_on m b bs d ≡ d
not_passed m b bs d e = ap (λ c. cond c (demand m (formulas m bs) b d) d) e

-- from the newest needed formula on, nothing more is demanded
pub demands_above : (n : Bool) (m : Machine) (bs : List Birth) (d : Demands) (j : ℕ) → ((k : ℕ) → j < k → d.need k ≡ false) → (i : ℕ) → j ≤ i → part n (demands m bs d) i ≡ part n d i
unfolding demands
demands_above n m [] d j h i l = refl
demands_above n m (b ∷ bs) d j h i l = elim (cases_lt i (length bs)) [
  | inl g ↦ ap (λ (x : Demands). part n (demands m bs x) i) (not_passed m b bs d (h (length bs) (omega arith))) ∙ demands_above n m bs d j h i l
  | inr g ↦ demands_keep n m bs (passed_on m b bs d) i g ∙ passed_keeps n m b bs d i g
]
