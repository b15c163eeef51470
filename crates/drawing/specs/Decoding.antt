-- What a file's bytes are read as.
use Rattle.std.specs.Prelude.{◌≡◌, ℕ, ◌≤◌, List, length, take, Ok, Err, IsUtf8, Result}
use Rattle.std.specs.Borrow.{Bor}
use Rattle.std.specs.Str.{IsValidUpTo}
use Rattle.drawing.specs.declared.decoded.NoText.{NoText}
use Rattle.drawing.specs.Lines.{lines_of}

-- the line of the first byte that is no UTF-8, which is a line of the bytes
pub record Breaks (bytes : List ℕ) (line : ℕ) : Type 0 where
  pub none : IsUtf8 bytes → ⊥
  pub before : ℕ
  pub valid : IsValidUpTo bytes before
  pub here : line ≡ length (lines_of (take before bytes))
  pub within : line ≤ length (lines_of bytes)

-- the bytes are a text; or they are none, and where
abbrev pub Decodes : List ℕ → Result (Bor (List ℕ)) NoText → Type 0
Decodes bytes (Ok text) = text.now ≡ bytes
Decodes bytes (Err e) = Breaks bytes e.line
