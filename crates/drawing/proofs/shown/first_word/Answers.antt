use Rattle.std.proofs.Common.{refl, sym, ◌∙◌}
use Rattle.drawing.proofs.Wording.{white, word_before, word_whole}
use Rattle.drawing.proofs.shown.first_word.Goals as goal

pub returns-in-Some : goal.returns-in-Some
returns-in-Some c =
    let cut = c.in-Some.ensures.cases in
    let finds = cut.2 white (λ d. refl) in
    cut.3 ∙ sym (word_before c.args.text.now cut.0 cut.1 finds.0 finds.1)

pub returns-in-None : goal.returns-in-None
returns-in-None c = sym (word_whole c.args.text.now (c.in-None.ensures.cases white (λ d. refl)))
