-- The numbers that a line of text holds, as a function of its bytes.
use Rattle.std.specs.Prelude.{◌≡◌, ℕ, suc, ◌+◌, ◌-◌, ◌*◌, ◌^◌, ◌<◌, Bool, cond, not, ◌&&◌, ◌||◌, List, [], ◌∷◌, ◌++◌, length, Some, None, decimal, Option, ◌==◌, nat_lt}
use Rattle.std.specs.List.{AllByRecursion}
use Rattle.std.specs.Str.{all_ascii_digits}
use Rattle.query.specs.Answers.{after_blanks}

-- a space or a tab
abbrev pub blank : ℕ → Bool
blank c = c == 32 || c == 9

-- what follows the blanks in front
abbrev pub skip : List ℕ → List ℕ
skip [] = []
skip (c ∷ bs) = cond (blank c) (skip bs) (c ∷ bs)

-- how many bytes stand before the first blank
abbrev pub run : List ℕ → ℕ
run [] = 0
run (c ∷ bs) = cond (blank c) 0 (suc (run bs))

-- bytes are a word, unless there are none
abbrev pub put : List ℕ → List (List ℕ) → List (List ℕ)
put [] ws = ws
put (c ∷ w) ws = (c ∷ w) ∷ ws

-- the bytes before the first blank, and the words after it
abbrev pub cut : List ℕ → List ℕ × List (List ℕ)
cut [] = ([], [])
cut (c ∷ bs) = let r = cut bs in cond (blank c) ([], put r.0 r.1) (c ∷ r.0, r.1)

-- the words of a line: what stands between blanks
abbrev pub pieces : List ℕ → List (List ℕ)
pieces bs = put (cut bs).0 (cut bs).1

-- the number that digits write, after the number n
abbrev pub value_after : ℕ → List ℕ → ℕ
value_after n [] = n
value_after n (c ∷ cs) = value_after (10 * n + (c - 48)) cs

-- one digit or more, and no other bytes, that write a number below 2^32
abbrev pub numeral : List ℕ → Bool
numeral w = not (length w == 0) && (all_ascii_digits w && nat_lt (value_after 0 w) (2 ^ 32))

abbrev pub number_of : List ℕ → Option ℕ
number_of w = cond (numeral w) (Some (value_after 0 w)) None

-- numbers; or a word that is no number, and which word it is
pub data Reading : Type 0 where
  numbers : List ℕ → Reading
  no_number : List ℕ → ℕ → Reading

-- n is read before the rest
abbrev pub onto : ℕ → Reading → Reading
onto n (numbers ns) = numbers (n ∷ ns)
onto n (no_number w k) = no_number w k

abbrev pub going_on : Option ℕ → Reading → Reading → Reading
going_on None stop rest = stop
going_on (Some n) stop rest = onto n rest

-- words, of which the first is word k
abbrev pub read_from : ℕ → List (List ℕ) → Reading
read_from k [] = numbers []
read_from k (w ∷ ws) = going_on (number_of w) (no_number w k) (read_from (suc k) ws)

-- the words of a line as numbers, or the first that is none, counted from 1
unfoldable pub reading : List ℕ → Reading
reading line = read_from 1 (pieces line)

-- numbers in decimal, with one blank between
abbrev pub spaced : List ℕ → List ℕ
spaced [] = []
spaced (n ∷ ns) = decimal n ++ after_blanks ns

-- numbers below 2^32, printed so, are read again as themselves
abbrev pub ReadsBack : Type 0
ReadsBack = (ns : List ℕ) → AllByRecursion (λ n. n < 2 ^ 32) ns → reading (spaced ns) ≡ numbers ns
