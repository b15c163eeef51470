use Rattle.std.proofs.Common.{length, take, drop, sym, ap, ◌∙◌, subst, arith, rules}
use Rattle.std.specs.Str.{IsCharBoundary}
use Rattle.std.proofs.lemmas.Bool.{eqb-true, eqb-false}
use Rattle.query.specs.Reading.{run}
use Rattle.query.proofs.Cuts.{run_cut, run_to, next_shorter}
use Rattle.query.proofs.Roundtrip.{reads_back}
use Rattle.query.proofs.Wordwise.{start, more, stop, done}
use Rattle.query.proofs.words.read_words.Goals as goal

pub loop-rest-init : goal.loop-rest-init
loop-rest-init c = (search rules, start _ _ _ c.skip_blanks-rest.ensures c.clear.ensures.items)

pub split_at-requires : goal.split_at-requires
split_at-requires c = subst (IsCharBoundary c.loop-rest.rest.now) (sym (run_to _ c.word_len.result c.word_len.ensures.within c.word_len.ensures.word c.word_len.ensures.end ∙ ap run c.as_bytes.ensures.value)) (run_cut c.loop-rest.rest.now)

pub returns-in_default : goal.returns-in_default
returns-in_default c =
    let rest = c.loop-rest.rest.now in
    let cut = run_to _ c.word_len.result c.word_len.ensures.within c.word_len.ensures.word c.word_len.ensures.end ∙ ap run c.as_bytes.ensures.value in
    record {
      exact =
          stop _ rest _ _ _ c.loop-rest.invariant.1
          (eqb-false (length rest) 0 (sym c.loop-rest-test.ensures))
          (c.split_at.ensures.front ∙ ap (λ n. take n rest) cut)
          (sym c.in_default.is ∙ c.number.ensures)
          (omega (arith, c.len-place.ensures, c.loop-rest.words.ok.0));
      again = reads_back;
    }

pub returns-in_err-push : goal.returns-in_err-push
returns-in_err-push c = record { exact = search rules; again = reads_back }

pub loop-rest-smaller : goal.loop-rest-smaller
loop-rest-smaller c =
    let rest = c.loop-rest.rest.now in
    let cut = run_to _ c.word_len.result c.word_len.ensures.within c.word_len.ensures.word c.word_len.ensures.end ∙ ap run c.as_bytes.ensures.value in
    let less =
    next_shorter rest c.split_at.result.1.now
    (eqb-false (length rest) 0 (sym c.loop-rest-test.ensures))
    c.loop-rest.invariant.1.trimmed
    (c.split_at.ensures.back ∙ ap (λ n. drop n rest) cut) in
    omega (arith, less, ap length c.skip_blanks-rest-in-loop-rest.ensures)

pub loop-rest-preserved : goal.loop-rest-preserved
loop-rest-preserved c =
    let rest = c.loop-rest.rest.now in
    let cut = run_to _ c.word_len.result c.word_len.ensures.within c.word_len.ensures.word c.word_len.ensures.end ∙ ap run c.as_bytes.ensures.value in (
      search rules,
      more _ rest _ c.split_at.result.0.now c.split_at.result.1.now _ _ c.in-Some.n c.loop-rest.invariant.1
          (eqb-false (length rest) 0 (sym c.loop-rest-test.ensures))
          (c.split_at.ensures.front ∙ ap (λ n. take n rest) cut)
          (c.split_at.ensures.back ∙ ap (λ n. drop n rest) cut)
          c.skip_blanks-rest-in-loop-rest.ensures
          (sym c.in-Some.is ∙ c.number.ensures)
          c.in_ok-push.ensures.items,
    )

pub returns : goal.returns
returns c = record { exact = done _ _ _ c.loop-rest.invariant.1 (eqb-true (length c.loop-rest.rest.now) 0 (sym c.loop-rest-test.ensures)); again = reads_back }
