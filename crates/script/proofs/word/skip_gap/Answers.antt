use Rattle.std.proofs.Common.{◌≡◌, ◌∙◌, List, ℕ, ap, drop, subst, sym}
use Rattle.std.specs.Str.{IsCharBoundary}
use Rattle.script.specs.Grammar.{skip}
use Rattle.script.proofs.Trims.{cut_behind, trimmed}
use Rattle.script.proofs.word.skip_gap.Goals as goal

pub split_at-requires : goal.split_at-requires
split_at-requires c =
    subst (λ (bs : List ℕ). IsCharBoundary bs c.gap_len.result) c.as_bytes.ensures.value (cut_behind _ c.gap_len.result c.as_bytes.ensures.utf8 c.gap_len.ensures.within c.gap_len.ensures.gaps)

pub returns : goal.returns
returns c =
    let same = c.as_bytes.ensures.value in
    c.split_at.ensures.back ∙ ap (drop c.gap_len.result) (sym same) ∙ trimmed _ c.gap_len.result c.gap_len.ensures.within c.gap_len.ensures.gaps c.gap_len.ensures.end ∙ ap skip same
