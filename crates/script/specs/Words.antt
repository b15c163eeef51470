-- What the code's words and last names say.
use Rattle.std.specs.Prelude.{ℕ, List, Ok, Err, Result}
use Rattle.std.specs.Borrow.{Bor}
use Rattle.script.specs.declared.Fault.{Fault}
use Rattle.script.specs.declared.word.Word.{Word}
use Rattle.script.specs.Grammar.{Stated, Reading, says, fault, Worded, word, no_word}

abbrev pub worded : Result Word Fault → Worded
worded (Ok w) = word w.quoted w.name.now w.rest.now
worded (Err f) = no_word f.expected f.found.now

-- the statement that f makes of a last name
abbrev pub ending : (List ℕ → Stated) → Result (Bor (List ℕ)) Fault → Reading
ending f (Ok n) = says (f n.now)
ending f (Err e) = fault e.expected e.found.now
