use Rattle.std.proofs.Common.{◌≡◌, ◌*◌, length, get_or, sym, ◌∙◌, subst, arith}
use Rattle.observer.specs.Read.{ReadSays}
use Rattle.observer.proofs.Words.{between, wrong_length, reads_it, reads_none, borrowed_words, says_by}
use Rattle.observer.proofs.reading.read.Goals as goal

pub returns-then-transitions-count-clause-says : goal.returns-then-transitions-count-clause-says
returns-then-transitions-count-clause-says c q h = wrong_length c.args.words.now q c.in-len4-up.len_at_least (λ e. omega (arith, e)) h

pub returns-clause-says : goal.returns-clause-says
returns-clause-says c =
    let w = c.args.words.now in
    let four = c.in-len4-up.len_at_least in
    let long : length (between w) ≡ 3 * get_or w 1 0 = omega arith in
    subst (ReadSays w) (sym c.then_some.ensures)
    (says_by w _ c.is_valid.result
    (λ e. record { encoded = reads_it w four long (sym c.is_valid.ensures ∙ e); borrowed = borrowed_words w long })
    (λ e q h. reads_none w q four (sym c.is_valid.ensures ∙ e) h))
