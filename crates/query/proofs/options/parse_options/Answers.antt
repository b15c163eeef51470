use Rattle.std.proofs.Common.{◌≡◌, ◌∷◌, map, string_bytes, sym, ap, ◌∙◌, rules}
use Rattle.std.specs.Slice.Iter.{iter_rest}
use Rattle.query.specs.Chosen.{chosen}
use Rattle.query.proofs.Choosing.{goes_on}
use Rattle.query.proofs.options.parse_options.Goals as goal

pub loop-option-preserved : goal.loop-option-preserved
loop-option-preserved c =
    let a = c.as_str-option.result.now in
    let v = c.as_str.result.now in
    let left = map string_bytes (iter_rest c.next-in-Some.new.self) in
    let two : map string_bytes (iter_rest c.loop-option.rest) ≡ a ∷ v ∷ left = search rules in
    ap (λ o. chosen o left) c.given-options.ensures ∙ goes_on c.loop-option.options a v left c.in-Some-room_of.room c.in-Some-number.words (sym c.if-eq.ensures) (search rules) (search rules) ∙ ap (chosen c.loop-option.options) (sym two) ∙ c.loop-option.invariant
