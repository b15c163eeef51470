use Rattle.std.proofs.Common.{ℕ, ◌+◌, Bool, cond, [], ◌∷◌, sym, ap, ◌∙◌, subst, arith}
use Rattle.lts.specs.Line.{neg_line}
use Rattle.lines.specs.Joins.{Appends}
use Rattle.lines.proofs.Appending.{append_one}
use Rattle.lines.proofs.telling.tell_negation.Goals as goal

pub returns : goal.returns
returns c =
    let is = sym c.has_bit.ensures ∙ c.if-not-has_bit.false in
    record {
      next = omega (arith, ap {B = ℕ} (λ (b : Bool). cond b 1 0) is);
      lines = subst (λ (b : Bool). Appends c.args.lines.now (c.args.at + 1) (cond b (neg_line c.args.at ∷ []) []) c.write_line.new.lines) (sym is)
          (append_one c.args.lines.now (c.args.at + 1) (neg_line c.args.at) c.write_line.new.lines c.write_line.ensures);
    }
