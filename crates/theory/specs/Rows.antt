-- What code sees of a list of formulas: rows of answers, a bit for each formula, the oldest first.
use Rattle.std.specs.Prelude.{◌≡◌, ℕ, zero, ◌<◌, Bool, true, false, cond, not, ◌&&◌, ◌||◌, List, [], ◌∷◌, length, ◌==◌}
use Rattle.std.specs.Bool.{beq}
use Rattle.lts.specs.Machine.{Machine}
use Rattle.lts.specs.Formula.{Formula, top, neg, satisfies, depth, any_step}
use Rattle.theory.specs.Births.{Birth, same, term, needed, formulas}

-- v gives u's answer to each formula that is needed to tell u from what y reaches by a
abbrev pub agrees : Machine → List Formula → ℕ → ℕ → ℕ → ℕ → Bool
agrees m [] a u y v = true
agrees m (f ∷ fs) a u y v = (not (needed m f fs a u y) || beq (satisfies m f u) (satisfies m f v)) && agrees m fs a u y v

-- the element at a place counted from the oldest, at the end of the list; d past the newest
abbrev pub from_oldest : {A : Type 0} → A → List A → ℕ → A
from_oldest d [] j = d
from_oldest d (x ∷ xs) j = cond (j == length xs) x (from_oldest d xs j)

-- the answer of s to formula j: bit j of its row; past the newest it is 0
abbrev pub answer : Machine → List Formula → ℕ → ℕ → Bool
answer m fs j s = satisfies m (from_oldest (neg top) fs j) s

-- the first formula to which s and t answer differently, if there is one
abbrev pub first : Machine → List Formula → ℕ → ℕ → ℕ
first m [] s t = zero
first m (f ∷ fs) s t = cond (same m fs s t) (length fs) (first m fs s t)

-- formula j is first to tell u from some state that y reaches by a: bit j of the mask of terms
abbrev pub wanted : Machine → List Formula → ℕ → ℕ → ℕ → ℕ → Bool
wanted m fs a u y j = any_step m.transitions y a (λ v. not (same m fs u v) && first m fs u v == j)

-- the first formula of the list to which s and t answer differently, or its negation: whichever holds of s
abbrev pub first_formula : Machine → List Birth → ℕ → ℕ → Formula
first_formula m bs s t = term m (from_oldest (neg top) (formulas m bs) (first m (formulas m bs) s t)) s

-- f is l deep and holds of s and not of t, and nothing less deep tells the two apart
pub record TellsLeast (m : Machine) (s t : ℕ) (f : Formula) (l : ℕ) : Type 0 where
  pub holds : satisfies m f s ≡ true
  pub fails : satisfies m f t ≡ false
  pub deep : depth f ≡ l
  pub least : (g : Formula) → depth g < l → satisfies m g s ≡ satisfies m g t
