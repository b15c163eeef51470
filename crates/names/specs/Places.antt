-- The place of a name in a list of names.
use Rattle.std.specs.Prelude.{◌≡◌, ℕ, suc, ◌<◌, cond, List, [], ◌∷◌, ◌++◌, length, Some, None, Option, slice_index_or}
use Rattle.std.specs.Str.{bytes_eq as same_text}
use Rattle.std.specs.Option.{option_map}

-- a name, by its bytes
abbrev pub Name : Type 0
Name = List ℕ

-- where the name first stands
unfoldable pub place : List Name → Name → Option ℕ
place [] n = None
place (x ∷ xs) n = cond (same_text n x) (Some 0) (option_map suc (place xs n))

-- the name at the end, unless it has a place
abbrev pub added : Option ℕ → List Name → Name → List Name
added (Some i) xs n = xs
added None xs n = xs ++ (n ∷ [])

-- the names with n among them: as they are where it is there, else with n at the end
unfoldable pub noted : List Name → Name → List Name
noted xs n = added (place xs n) xs n

-- no name stands at two places
abbrev pub Distinct : List Name → Type 0
Distinct xs = (i j : ℕ) → i < length xs → j < length xs → slice_index_or xs i [] ≡ slice_index_or xs j [] → i ≡ j

-- names noted in turn
abbrev pub noted_all : List Name → List Name → List Name
noted_all xs [] = xs
noted_all xs (n ∷ ns) = noted_all (noted xs n) ns
