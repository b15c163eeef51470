-- Refusals in plain words.
use Rattle.std.specs.Prelude.{ℕ, ◌/◌, ◌%◌, cond, List, [], ◌∷◌, ◌++◌, length, codes, decimal, ◌==◌, nat_lt}
use Rattle.script.specs.Printed.{expectation}
use Rattle.drawing.specs.declared.decoded.NoText.{NoText}
use Rattle.drawing.specs.declared.Reason.{Reason}
use Rattle.drawing.specs.declared.Reason.TheVariants.{Unexpected, SecondMachine, SecondStart, NoStart, UnknownStart, TooManyStates, TooManyArrows, TooManyButtons}
use Rattle.drawing.specs.declared.Refusal.{Refusal}
use Rattle.drawing.specs.declared.Trouble.{Trouble}
use Rattle.drawing.specs.declared.Trouble.TheVariants.{Refused, Memory}

-- what stands before the first c
unfoldable pub until : ℕ → List ℕ → List ℕ
until c [] = []
until c (b ∷ bs) = cond (b == c) [] (b ∷ until c bs)

-- the first word, up to a space, a tab or a carriage return
abbrev pub first_word : List ℕ → List ℕ
first_word bs = until 13 (until 9 (until 32 bs))

-- what was found: a word, or the end of the line
abbrev pub finding : List ℕ → List ℕ
finding bs = cond (length bs == 0) (codes "the end of the line") (39 ∷ (first_word bs ++ (39 ∷ [])))

-- a number, with a comma before its last three digits where it has four to six
abbrev pub grouped : ℕ → List ℕ
grouped n = cond (nat_lt n 1000) (decimal n) (cond (nat_lt n 1000000) (decimal (n / 1000) ++ (44 ∷ (decimal (n / 100 % 10) ++ (decimal (n / 10 % 10) ++ decimal (n % 10))))) (decimal n))

abbrev pub reason_words : Reason → List ℕ
reason_words (Unexpected e found) = codes "found " ++ (finding found.now ++ (codes ", expected " ++ expectation e))
reason_words SecondMachine = codes "a second machine line; a drawing has one title"
reason_words SecondStart = codes "a second start line; a machine starts in one state"
reason_words NoStart = codes "no start line; write start in front of the state where the machine starts"
reason_words (UnknownStart n) = codes "it starts in '" ++ (n.now ++ codes "', which is no state of the drawing")
reason_words (TooManyStates n) = grouped n ++ codes " states; at most 4,096 can be compared"
reason_words (TooManyArrows n) = grouped n ++ codes " transitions; at most 16,384 can be compared"
reason_words (TooManyButtons n) = grouped n ++ codes " buttons; at most 64 can be compared"

abbrev pub refusal_words : Refusal → List ℕ
refusal_words f = codes "line " ++ (decimal f.line ++ (codes ": " ++ reason_words f.reason))

abbrev pub trouble_words : Trouble → List ℕ
trouble_words (Refused f) = refusal_words f
trouble_words Memory = codes "not enough memory for the drawing"

abbrev pub no_text_words : NoText → List ℕ
no_text_words n = codes "line " ++ (decimal n.line ++ codes ": found a byte that is no UTF-8, expected text")
