use Rattle.std.proofs.Common.{false, ◌∙◌, lit<}
use Rattle.std.proofs.lemmas.Str.Parse.{parse_plain}
use Rattle.std.proofs.lemmas.Str.Pattern.{starts_char}
use Rattle.std.proofs.lemmas.Bool.{false≢true}
use Rattle.query.proofs.Numbers.{own, number_is}
use Rattle.query.proofs.words.number.Goals as goal

pub returns : goal.returns
returns c = c.ok.ensures.value ∙ number_is c.args.word.now c.parse.result (parse_plain own 32 c.args.word.now c.parse.result c.parse.ensures.value.0 (λ e. false≢true ((starts_char 43 c.args.word.now false c.if-starts_with.ensures.cases (lit< tt) (lit< tt)).1 e)))
