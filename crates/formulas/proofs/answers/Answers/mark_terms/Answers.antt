use Rattle.std.proofs.Common.{length, ◌∙◌}
use Rattle.formulas.proofs.Linking.{row_length}
use Rattle.formulas.proofs.Marking.{terms_next}
use Rattle.chains.proofs.Walking.{stepped}
use Rattle.formulas.proofs.answers.Answers.mark_terms.Goals as goal

pub loop-j-preserved : goal.loop-j-preserved
loop-j-preserved c =
    let (_, _, same, here, terms) = c.loop-j.invariant in
    let (is, within, on, links) = c.in-Some.ensures.steps in
    let self = c.args.self in
    let system = self.system in
    let birth = c.args.birth in
    let step = stepped system.next.now _ _ _ _ same is within on in
    let (at, more) = terms_next system.words.now system.first.now system.next.now self.rows.now self.width birth.label birth.reach birth.lack _ _ _ c.loop-j.mask c.mark_term.new.mask
    system.chained step here (row_length self.rows.now (length system.first.now) self.width birth.reach self.long c.requires.reach) terms c.mark_term.ensures in
    (tt, tt, links ∙ same, at, more)
