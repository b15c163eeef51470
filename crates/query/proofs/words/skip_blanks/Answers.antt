use Rattle.std.proofs.Common.{◌≡◌, ◌∙◌, List, ℕ, ap, drop, subst, sym}
use Rattle.std.specs.Str.{IsCharBoundary}
use Rattle.query.specs.Reading.{skip}
use Rattle.query.proofs.Cuts.{cut_behind, skipped}
use Rattle.query.proofs.words.skip_blanks.Goals as goal

pub split_at-requires : goal.split_at-requires
split_at-requires c =
    subst (λ (bs : List ℕ). IsCharBoundary bs c.blank_len.result) c.as_bytes.ensures.value (cut_behind _ c.blank_len.result c.as_bytes.ensures.utf8 c.blank_len.ensures.within c.blank_len.ensures.blanks)

pub returns : goal.returns
returns c =
    let same = c.as_bytes.ensures.value in
    c.split_at.ensures.back ∙ ap (drop c.blank_len.result) (sym same) ∙ skipped _ c.blank_len.result c.blank_len.ensures.within c.blank_len.ensures.blanks c.blank_len.ensures.end ∙ ap skip same
