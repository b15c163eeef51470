use Rattle.std.proofs.Common.{ℕ, Bool, true, false, List, refl, sym, subst, inl, inr}
use Rattle.std.proofs.lemmas.Bool.{both_ways}
use Rattle.std.specs.Prelude.{Decides}
use mir.Val.{bool_byte}
use Rattle.lent.specs.Bits.{Agree}
use Rattle.formulas.specs.Link.{row_of}
use Rattle.formulas.specs.Marks.{Tells}
use Rattle.formulas.proofs.answers.Answers.agreement.Goals as goal

-- a test as a number
as_number : (b : Bool) (P : Type 0) → Decides b P → Tells (bool_byte b) P
as_number true P d = inl (refl, d.0 refl)
as_number false P d = inr (refl, λ p. both_ways false refl (d.1 p))

pub returns : goal.returns
returns c =
    let self = c.args.self in
    let mask = c.args.mask.words.now in
    let row : ℕ → List ℕ = row_of self.rows.now self.width in
    let one = subst (λ (xs : List ℕ). Decides c.agree_within.result (Agree xs c.row-2.result.now mask)) c.row.ensures.row c.agree_within.ensures in
    let both = subst (λ (ys : List ℕ). Decides c.agree_within.result (Agree (row c.args.reach.0) ys mask)) c.row-2.ensures.row one in
    let agree : Type 0 = Agree (row c.args.reach.0) (row c.args.v.0) mask in
    subst (λ n. Tells n agree) (sym c.from.ensures) (as_number c.agree_within.result agree both)
