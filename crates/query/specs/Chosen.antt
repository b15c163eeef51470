-- What arguments ask for, as a function of their bytes.
use Rattle.std.specs.Prelude.{ℕ, Bool, cond, ◌||◌, List, [], ◌∷◌, ◌++◌, Some, None, Ok, Err, codes, Option, Result}
use Rattle.std.specs.Str.{bytes_eq}
use Rattle.query.specs.declared.options.Room.{Room}
use Rattle.query.specs.declared.options.Room.TheVariants.{Lines, Work}
use Rattle.query.specs.declared.plan.Command.{Command}
use Rattle.query.specs.declared.plan.Command.TheVariants.{Answer, Help}
use Rattle.query.specs.declared.plan.Fault.{Fault}
use Rattle.query.specs.declared.plan.Fault.TheVariants.{Unknown, NoNumber, Nothing}
use Rattle.query.specs.declared.plan.Options.{Options}
use Rattle.query.specs.Reading.{number_of}

-- a command; or an option that is none; or one with no number, or nothing, after it
pub data Chosen : Type 0 where
  asks : Command → Chosen
  unknown : List ℕ → Chosen
  no_number : List ℕ → List ℕ → Chosen
  nothing : List ℕ → Chosen

-- with the largest question, of 49,156 words, and the 6,357,504 that are lent for it, room for lines and text stays within 32 MiB
abbrev pub default : Options
default = record { lines = 1048576; work = None }

abbrev pub is_room : List ℕ → Bool
is_room a = bytes_eq a (codes "--lines") || bytes_eq a (codes "--work")

abbrev pub with_room : Options → List ℕ → ℕ → Options
with_room o a n = cond (bytes_eq a (codes "--lines")) (record { lines = n; work = o.work }) (record { lines = o.lines; work = Some n })

-- what the code takes for room, and what it makes of it
abbrev pub room_of : List ℕ → Option Room
room_of a = cond (bytes_eq a (codes "--lines")) (Some Lines) (cond (bytes_eq a (codes "--work")) (Some Work) None)

abbrev pub given : Options → Room → ℕ → Options
given o Lines n = record { lines = n; work = o.work }
given o Work n = record { lines = o.lines; work = Some n }

abbrev pub going : Option ℕ → Chosen → (ℕ → Chosen) → Chosen
going None c f = c
going (Some n) c f = f n

-- from the left, the last of each kind counts
abbrev pub chosen : Options → List (List ℕ) → Chosen
chosen o [] = asks (Answer o)
chosen o (a ∷ []) = cond (bytes_eq a (codes "--help")) (asks Help) (cond (is_room a) (nothing a) (unknown a))
chosen o (a ∷ v ∷ rest) = cond (bytes_eq a (codes "--help")) (asks Help) (cond (is_room a) (going (number_of v) (no_number a v) (λ n. chosen (with_room o a n) rest)) (unknown a))

-- what the code's values say
abbrev pub chosen_by : Result Command Fault → Chosen
chosen_by (Ok c) = asks c
chosen_by (Err (Unknown a)) = unknown a.now
chosen_by (Err (NoNumber a v)) = no_number a.now v.now
chosen_by (Err (Nothing a)) = nothing a.now

abbrev pub fault_words : Fault → List ℕ
fault_words (Unknown a) = codes "found '" ++ (a.now ++ codes "', expected --lines WORDS, --work WORDS or --help")
fault_words (NoNumber a v) = codes "found '" ++ (v.now ++ (codes "' after " ++ (a.now ++ codes ", expected a number below 4294967296")))
fault_words (Nothing a) = codes "found nothing after " ++ (a.now ++ codes ", expected a number below 4294967296")
