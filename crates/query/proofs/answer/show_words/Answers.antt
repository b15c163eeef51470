use Rattle.std.proofs.Common.{sym, refl}
use Rattle.std.proofs.Output.{has_written_of_eq, has_written_append}
use Rattle.query.proofs.Texts.{after_blanks_more}
use Rattle.query.proofs.answer.show_words.Goals as goal

pub loop-word-preserved : goal.loop-word-preserved
loop-word-preserved g c = λ p. let so_far = c.loop-word.invariant p in
    has_written_of_eq g.W.Write.write_str_gives _ _ _ _ (sym (after_blanks_more c.args.words.now c.loop-word.word-index c.loop-word-test.true))
    (has_written_append g.W.Write.write_str_gives _ _ _ _ _ so_far (c.in_ok-write.ensures.writes so_far.plain refl))
