-- Which lines are told of two states: those of the first formula with different answers and of what it needs, each formula's once.
use Rattle.std.specs.Prelude.{ℕ, zero, suc, ◌+◌, ◌<◌, max, Bool, cond, not, ◌&&◌, ◌||◌, List, [], ◌∷◌, ◌++◌, length, ◌==◌}
use Rattle.std.proofs.Math.Option.{Option, some, none}
use Rattle.lts.specs.Machine.{Machine}
use Rattle.lts.specs.Formula.{Formula, top, neg, and, dia}
use Rattle.lts.specs.Line.{Line, top_line, neg_line, and_line, dia_line, given, line_formula}
use Rattle.lts.specs.Question.{Question}
use Rattle.theory.specs.Births.{Birth, term, needed, body, formula, formulas, births}
use Rattle.theory.specs.Rows.{answer, first, wanted}

-- What is needed, found in one pass down the list

-- which formulas are needed, by their number from the oldest, and which of them negated
pub record Demands : Type 0 where
  pub need : ℕ → Bool
  pub negated : ℕ → Bool

-- formula i is a term of the formula of birth b, which is made from fs
abbrev pub is_term : Machine → List Formula → Birth → ℕ → Bool
is_term m fs b i = wanted m fs b.label b.reach b.lack i

-- a formula needs its terms, negated those that do not hold of the state that its birth reaches
abbrev pub demand : Machine → List Formula → Birth → Demands → Demands
demand m fs b d = record { need = λ i. d.need i || is_term m fs b i; negated = λ i. d.negated i || (is_term m fs b i && not (answer m fs i b.reach)) }

-- if it is needed itself
abbrev pub passed_on : Machine → Birth → List Birth → Demands → Demands
passed_on m b bs d = cond (d.need (length bs)) (demand m (formulas m bs) b d) d

-- so down the list, from the newest
unfoldable pub demands : Machine → List Birth → Demands → Demands
demands m [] d = d
demands m (b ∷ bs) d = demands m bs (passed_on m b bs d)

-- at first only formula j is needed; negated, if n says so
abbrev pub demand_one : ℕ → Bool → Demands
demand_one j n = record { need = λ i. (i == j); negated = λ i. (i == j) && n }

-- The lines, told in one pass up the list

-- terms that were joined: their and-lines, and the line that says all of them: line 0, which is `top`, while there is none
pub record Joined : Type 0 where
  pub ands : List Line
  pub at : ℕ

-- one term more, which line t says; the first and_line is line n
abbrev pub join : ℕ → ℕ → Joined → Joined
join n t j = cond (j.at == 0) (record { ands = j.ands; at = t }) (record { ands = j.ands ++ (and_line j.at t ∷ []); at = n + length j.ands })

-- of the first k formulas those that are terms, the oldest first; `line` has the line of each
abbrev pub joined : (ℕ → Bool) → (ℕ → ℕ) → ℕ → ℕ → Joined
joined is line n zero = record { ands = []; at = 0 }
joined is line n (suc i) = let j = joined is line n i in cond (is i) (join n (line i) j) j

-- lines, and at which of them each formula stands that was told
pub record Text : Type 0 where
  pub lines : List Line
  pub place : ℕ → ℕ

-- the line that says the formula at line p, or the next, which then says its negation
abbrev pub term_line : Bool → ℕ → ℕ
term_line holds p = cond holds p (suc p)

-- the terms of a formula, joined behind what was told
abbrev pub terms_told : Machine → Birth → List Birth → Text → Joined
terms_told m b bs x = joined (is_term m (formulas m bs) b) (λ i. term_line (answer m (formulas m bs) i b.reach) (x.place i)) (length x.lines) (length bs)

-- a line and, if n says so, its negation
abbrev pub with_negation : Bool → Line → ℕ → List Line
with_negation n l at = l ∷ cond n (neg_line at ∷ []) []

-- the formula of a birth is told: what joins its terms, the formula, and its negation if that is needed
abbrev pub formula_told : Machine → Demands → Birth → List Birth → Text → Text
formula_told m d b bs x =
    let j = terms_told m b bs x in
    let at = length x.lines + length j.ands in
    record { lines = x.lines ++ (j.ands ++ with_negation (d.negated (length bs)) (dia_line b.label j.at) at); place = λ i. cond (i == length bs) at (x.place i) }

-- how many lines a formula takes that has c terms: all but one join them, then its own, and its negation's if n says so
abbrev pub lines_for : ℕ → Bool → ℕ
lines_for c n = max 1 c + cond n 1 0

-- so up the list, from the oldest; line 0 is `top`
unfoldable pub tell : Machine → Demands → List Birth → Text
tell m d [] = record { lines = top_line ∷ []; place = λ i. 0 }
tell m d (b ∷ bs) = let x = tell m d bs in cond (d.need (length bs)) (formula_told m d b bs x) x

-- what is needed to tell s from t
abbrev pub asked : Machine → ℕ → ℕ → Demands
asked m s t =
    let fs = formulas m (births m) in
    let j = first m fs s t in
    demands m (births m) (demand_one j (not (answer m fs j s)))

-- the text that tells s from t
abbrev pub told_of : Machine → ℕ → ℕ → Text
told_of m s t = tell m (asked m s t) (births m)

-- the lines that are told for a question
abbrev pub told : Question → List Line
told q = (told_of q.machine q.first q.second).lines

-- What the lines say, one formula a line

-- all that the lines say, after lines that said fs; none if some line uses one that isn't before it
abbrev pub sayings : List Formula → List Line → Option (List Formula)
sayings fs [] = some fs
sayings fs (l ∷ ls) = given (line_formula fs l) none (λ g. sayings (fs ++ (g ∷ [])) ls)

-- what is said while terms are joined: a body so far with its next term
abbrev pub conjoined : Formula → Formula → List Formula
conjoined top t = []
conjoined (neg f) t = and (neg f) t ∷ []
conjoined (and f g) t = and (and f g) t ∷ []
conjoined (dia a f) t = and (dia a f) t ∷ []

abbrev pub conjunctions : Machine → List Formula → ℕ → ℕ → ℕ → List Formula
conjunctions m [] a u y = []
conjunctions m (f ∷ fs) a u y = conjunctions m fs a u y ++ cond (needed m f fs a u y) (conjoined (body m fs a u y) (term m f u)) []

-- what is said to tell the formula f of a birth: what its terms join to, f, and its negation if n says so
abbrev pub formula_said : Machine → List Formula → Birth → Bool → List Formula
formula_said m fs b n = let f = formula m fs b in conjunctions m fs b.label b.reach b.lack ++ (f ∷ cond n (neg f ∷ []) [])

-- just the needed formulas of a list of births, with what joins their terms
abbrev pub all_said : Machine → Demands → List Birth → List Formula
all_said m d [] = top ∷ []
all_said m d (b ∷ bs) = all_said m d bs ++ cond (d.need (length bs)) (formula_said m (formulas m bs) b (d.negated (length bs))) []

-- A line uses only lines below n

abbrev pub LineUses : ℕ → Line → Type 0
LineUses n top_line = Unit {0}
LineUses n (neg_line i) = i < n
LineUses n (and_line i j) = (i < n) × (j < n)
LineUses n (dia_line a i) = i < n

-- each of the lines, of which the first is line n, uses only lines before it
abbrev pub UsesEarlier : ℕ → List Line → Type 0
UsesEarlier n [] = Unit {0}
UsesEarlier n (l ∷ ls) = LineUses n l × UsesEarlier (suc n) ls
