-- How a statement is written, so that it is read again.
use Rattle.std.specs.Prelude.{◌≡◌, ℕ, Bool, true, false, cond, not, ◌&&◌, T, List, [], ◌∷◌, ◌++◌, length, codes, ◌==◌}
use Rattle.script.specs.declared.Expected.{Expected}
use Rattle.script.specs.declared.Expected.TheVariants.{Name, Letters, Quote, Colon, Sign, End}
use Rattle.script.specs.Grammar.{Stated, blank, machine, start, state, arrow, says, bare, reading}

-- c is none of the bytes
abbrev pub lacks : ℕ → List ℕ → Bool
lacks c [] = true
lacks c (b ∷ bs) = not (b == c) && lacks c bs

-- a name that can be written: it has letters, and no quote or newline
abbrev pub writable : List ℕ → Bool
writable [] = false
writable (b ∷ bs) = lacks 34 (b ∷ bs) && lacks 10 (b ∷ bs)

abbrev pub writable_all : Stated → Bool
writable_all blank = true
writable_all (machine n) = writable n
writable_all (start n) = writable n
writable_all (state n) = writable n
writable_all (arrow s b t) = writable s && (writable b && writable t)

-- a name as it is written: bare where that is read as one, else in quotes
abbrev pub written : List ℕ → List ℕ
written n = cond (bare n == length n) n (34 ∷ (n ++ (34 ∷ [])))

-- a statement as a line
abbrev pub printed : Stated → List ℕ
printed blank = []
printed (machine n) = codes "machine " ++ written n
printed (start n) = codes "start " ++ written n
printed (state n) = codes "state " ++ written n
printed (arrow s b t) = written s ++ (codes ": " ++ (written b ++ (codes " -> " ++ written t)))

-- a statement with names that can be written is read again as itself
abbrev pub ReadsBack : Type 0
ReadsBack = (s : Stated) → T (writable_all s) → reading (printed s) ≡ says s

-- what was expected, in plain words
abbrev pub expectation : Expected → List ℕ
expectation Name = codes "a name"
expectation Letters = codes "a name with letters in it"
expectation Quote = codes "a closing quote"
expectation Colon = codes "':' after a state, or machine, start or state in front of a name"
expectation Sign = codes "'->' after a button"
expectation End = codes "the end of the line or a comment"
