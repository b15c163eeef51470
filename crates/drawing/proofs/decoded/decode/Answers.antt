use Rattle.std.proofs.Common.{◌≡◌, ℕ, List, length, take, Ok, Err, MatchResult, IsErrAnd, IsUtf8, Result, Bor, rules}
use Rattle.std.specs.Str.{IsValidUpTo, valid_up_to}
use Rattle.std.specs.declared.str.Utf8Error.{Utf8Error}
use Rattle.drawing.specs.declared.decoded.NoText.{NoText}
use Rattle.drawing.specs.Decoding.{Decodes}
use Rattle.drawing.specs.Lines.{lines_of}
use Rattle.drawing.proofs.Lined.{lines_front}
use Rattle.drawing.proofs.decoded.decode.Goals as goal

decoded : (bs : List ℕ) (r : Result (Bor (List ℕ)) Utf8Error) (q : Result (Bor (List ℕ)) NoText) (P : Utf8Error → NoText → Type 0)
    → MatchResult r (λ s. (s.now ≡ bs) × IsUtf8 bs) (λ e. (IsUtf8 bs → ⊥) × IsValidUpTo bs (valid_up_to e)) → MatchResult r (λ s. q ≡ Ok s) (λ e. IsErrAnd q (P e))
    → ((e : Utf8Error) (n : NoText) → P e n → n.line ≡ length (lines_of (take (valid_up_to e) bs))) → Decodes bs q
decoded bs (Ok s) q P h g f = rw g h.0
decoded bs (Err e) (Ok s) P h g f = elim g [ ]
decoded bs (Err e) (Err n) P h g f = record {
  none = h.0;
  before = valid_up_to e;
  valid = h.1;
  here = f e n g;
  within = rw (f e n g) (lines_front (valid_up_to e) bs);
}

pub returns : goal.returns
returns c = decoded c.args.bytes.now c.from_utf8.result c.map_err.result _ c.from_utf8.ensures.cases c.map_err.ensures.cases (λ e n k. search rules)
