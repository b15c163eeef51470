-- The formulas of a machine that was refined, and their terms.
use Rattle.std.specs.Prelude.{◌≡◌, ℕ, Bool, cond, List}
use Rattle.lts.specs.Formula.{Formula}
use Rattle.theory.specs.Births.{formulas}
use Rattle.theory.specs.Told.{is_term}
use Rattle.lent.specs.Bits.{bit_at}
use Rattle.formulas.specs.Link.{birth_at, births_of}
use Rattle.refine.specs.declared.refined.Refined.{Refined}
use Rattle.refine.specs.Refined.{machine_in}

-- the formulas that are older than formula j
abbrev pub older : Refined → ℕ → List Formula
older r j = formulas (machine_in r) (births_of r.births.now j)

-- formula i is a term of formula j
abbrev pub has_term : Refined → ℕ → ℕ → Bool
has_term r j i = is_term (machine_in r) (older r j) (birth_at r.births.now j) i

-- the mask has the terms of formula j
abbrev pub TermsAre : Refined → ℕ → List ℕ → Type 0
TermsAre r j mask = (q : ℕ) → bit_at mask q ≡ cond (has_term r j q) 1 0
