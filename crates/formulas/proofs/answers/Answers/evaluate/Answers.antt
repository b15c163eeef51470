use Rattle.std.proofs.Common.{◌∙◌}
use Rattle.formulas.proofs.answers.Answers.evaluate.Goals as goal

pub returns : goal.returns
returns c = record {
  mask = c.mark_terms.new.mask;
  marks = c.mark_agreeing.new.agree;
  wide = c.mark_terms.auto.mask ∙ c.requires.mask;
  terms = c.mark_terms.ensures;
  agreeing = c.mark_agreeing.ensures;
  holding = c.mark_holding.ensures;
}
