use Rattle.std.proofs.Common.{◌≡◌, Some, None, ap, ◌∙◌, lit<, rules}
use mathlib.Core.Option.{some}
use Rattle.std.proofs.lemmas.Str.Pattern.{split_parts}
use Rattle.script.specs.Grammar.{unquoted}
use Rattle.script.proofs.Cuts.{unquoted_none, unquoted_some}
use Rattle.script.proofs.word.quoted_name.Goals as goal

pub returns-in_default : goal.returns-in_default
returns-in_default c =
    let none-there = unquoted_none c.args.inner.now (split_parts 34 c.args.inner.now None c.in_default.ensures.cases (lit< tt)) in
    search rules

pub returns : goal.returns
returns c =
    let parts = split_parts 34 c.args.inner.now (Some (c.in-Some.name, c.in-Some.rest)) c.in-Some.ensures.cases (lit< tt) in
    let cut : unquoted c.args.inner.now ≡ some (c.in-Some.name.now, c.in-Some.rest.now) = ap unquoted parts.0 ∙ unquoted_some c.in-Some.name.now c.in-Some.rest.now parts.1 in
    search rules
