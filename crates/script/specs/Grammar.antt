-- What a line of a drawing says, as a function of its bytes.
use Rattle.std.specs.Prelude.{ℕ, suc, Bool, true, false, cond, not, ◌&&◌, ◌||◌, List, [], ◌∷◌, take, drop, Ok, Err, codes, Result, ◌==◌, nat_le}
use Rattle.std.proofs.Math.Option.{Option, some, none}
use Rattle.std.specs.Str.{bytes_eq}
use Rattle.script.specs.declared.Expected.{Expected}
use Rattle.script.specs.declared.Expected.TheVariants.{Name, Letters, Quote, Colon, Sign, End}
use Rattle.script.specs.declared.Fault.{Fault}
use Rattle.script.specs.declared.Statement.{Statement}
use Rattle.script.specs.declared.Statement.TheVariants.{Blank, Machine, Start, State, Arrow}

-- what a line says, by the bytes of its names
pub data Stated : Type 0 where
  blank : Stated
  machine : List ℕ → Stated
  start : List ℕ → Stated
  state : List ℕ → Stated
  arrow : List ℕ → List ℕ → List ℕ → Stated

-- a line says something, or something else is expected at what is left of it
pub data Reading : Type 0 where
  says : Stated → Reading
  fault : Expected → List ℕ → Reading

-- white space within a line
abbrev pub gap : ℕ → Bool
gap c = c == 32 || (c == 9 || c == 13)

abbrev pub skip : List ℕ → List ℕ
skip [] = []
skip (c ∷ bs) = cond (gap c) (skip bs) (c ∷ bs)

-- nothing is left but a comment
abbrev pub ended : List ℕ → Bool
ended [] = true
ended (c ∷ bs) = c == 35

-- the sign -> stands here
abbrev pub signed : List ℕ → Bool
signed [] = false
signed (c ∷ []) = false
signed (c ∷ d ∷ bs) = c == 45 && d == 62

-- may stand in a name without quotes: no white space or control character, no quote, # or colon
abbrev pub plain : ℕ → Bool
plain c = nat_le 33 c && not (c == 34 || (c == 35 || (c == 58 || c == 127)))

-- how many bytes a name without quotes takes: plain ones, up to the sign ->
abbrev pub bare : List ℕ → ℕ
bare [] = 0
bare (c ∷ bs) = cond (plain c && not (signed (c ∷ bs))) (suc (bare bs)) 0

-- a name, whether it was quoted, and what follows it; or what is expected, and where
pub data Worded : Type 0 where
  word : Bool → List ℕ → List ℕ → Worded
  no_word : Expected → List ℕ → Worded

-- c in front of the first part
abbrev pub onto : ℕ → Option (List ℕ × List ℕ) → Option (List ℕ × List ℕ)
onto c none = none
onto c (some p) = some (c ∷ p.0, p.1)

-- what stands before the first quote, and what after it
abbrev pub unquoted : List ℕ → Option (List ℕ × List ℕ)
unquoted [] = none
unquoted (c ∷ bs) = cond (c == 34) (some ([], bs)) (onto c (unquoted bs))

-- a quoted name has letters
abbrev pub lettered : List ℕ → List ℕ → List ℕ → Worded
lettered at [] rest = no_word Letters at
lettered at (c ∷ n) rest = word true (c ∷ n) rest

abbrev pub quoted : List ℕ → Option (List ℕ × List ℕ) → Worded
quoted at none = no_word Quote at
quoted at (some p) = lettered at p.0 p.1

-- the name that stands here, quoted or bare
abbrev pub named : List ℕ → Worded
named [] = no_word Name []
named (c ∷ bs) = cond (c == 34) (quoted (c ∷ bs) (unquoted bs)) (cond (bare (c ∷ bs) == 0) (no_word Name (c ∷ bs)) (word false (take (bare (c ∷ bs)) (c ∷ bs)) (drop (bare (c ∷ bs)) (c ∷ bs))))

-- nothing more stands on the line
abbrev pub closed : List ℕ → Stated → Reading
closed bs s = cond (ended (skip bs)) (says s) (fault End (skip bs))

-- a last name, and nothing more
abbrev pub last : (List ℕ → Stated) → Worded → Reading
last f (no_word e at) = fault e at
last f (word q n rest) = closed rest (f n)

-- the sign, and the target
abbrev pub past_button : List ℕ → List ℕ → List ℕ → Reading
past_button s b at = cond (signed at) (last (arrow s b) (named (skip (drop 2 at)))) (fault Sign at)

-- the button, the sign and the target
abbrev pub past_colon : List ℕ → Worded → Reading
past_colon s (no_word e at) = fault e at
past_colon s (word q b rest) = past_button s b (skip rest)

-- a first word with no colon after it: machine, start or state without quotes, and a name
abbrev pub keyed : Bool → List ℕ → List ℕ → Reading
keyed true n at = fault Colon at
keyed false n at = cond (bytes_eq n (codes "machine")) (last machine (named at)) (cond (bytes_eq n (codes "start")) (last start (named at)) (cond (bytes_eq n (codes "state")) (last state (named at)) (fault Colon at)))

abbrev pub past_first : Bool → List ℕ → List ℕ → Reading
past_first q n [] = keyed q n []
past_first q n (c ∷ bs) = cond (c == 58) (past_colon n (named (skip bs))) (keyed q n (c ∷ bs))

abbrev pub headed : Worded → Reading
headed (no_word e at) = fault e at
headed (word q n rest) = past_first q n (skip rest)

-- STATE: BUTTON -> STATE, or machine NAME, start NAME, state NAME, or nothing; then perhaps a comment
unfoldable pub reading : List ℕ → Reading
reading line = cond (ended (skip line)) (says blank) (headed (named (skip line)))

-- what the code's values say
abbrev pub meant : Statement → Stated
meant Blank = blank
meant (Machine n) = machine n.now
meant (Start n) = start n.now
meant (State n) = state n.now
meant (Arrow s b t) = arrow s.now b.now t.now

abbrev pub meaning : Result Statement Fault → Reading
meaning (Ok s) = says (meant s)
meaning (Err f) = fault f.expected f.found.now
