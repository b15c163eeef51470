use Rattle.std.proofs.Common.{◌≡◌, List, ℕ, Some, None, Option, Bor, option_map, unwrap_or, refl, arith}
use Rattle.std.proofs.lemmas.Option.{unwrap_or-slice_get}
use Rattle.drawing.proofs.written.name_at.Goals as goal

value_now : (o : Option (Bor (List ℕ))) (d : Bor (List ℕ)) → (unwrap_or o d).now ≡ unwrap_or (option_map (λ x. x.now) o) d.now
value_now None d = refl
value_now (Some x) d = refl

pub returns : goal.returns
returns c = grind (arith, unwrap_or-slice_get, value_now)
