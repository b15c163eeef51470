use Rattle.std.proofs.Common.{None, lit<, rules}
use Rattle.std.proofs.lemmas.Str.Pattern.{strip_prefix_char}
use Rattle.script.proofs.Cuts.{bare_cut, named_none}
use Rattle.script.proofs.word.first_word.Goals as goal

pub split_at-requires : goal.split_at-requires
split_at-requires c = search (rules, bare_cut)

pub returns-then-is_empty : goal.returns-then-is_empty
returns-then-is_empty c =
    let none = named_none c.args.text.now (strip_prefix_char 34 c.args.text.now None c.in_default.ensures.cases (lit< tt)) in
    search rules
