-- When a list of names and a map from names to numbers belong together.
use Rattle.std.specs.Prelude.{◌≡◌, ℕ, suc, ◌<◌, List, [], map, length, Some, None, vec_items, string_bytes, Option, Vec, String, slice_index_or}
use Rattle.std.specs.BTreeMap.{BTreeMap}
use Rattle.std.specs.BTreeMap.{get_by_text}
use Rattle.names.specs.Places.{Name, place}

-- the names, by their bytes
abbrev pub texts : {Y V : Type 0} → Vec (String Y) V → List Name
texts v = map string_bytes (vec_items v)

-- an option as a number, so that two of them are equal exactly if these are
abbrev pub coded : Option ℕ → ℕ
coded None = 0
coded (Some i) = suc i

-- each name stands first at its own place, so that no two are equal
abbrev pub Apart : {Y V : Type 0} → Vec (String Y) V → Type 0
Apart list = (i : ℕ) → i < length (texts list) → coded (place (texts list) (slice_index_or (texts list) i [])) ≡ suc i

-- the map has the place of each name, and of no other
abbrev pub Agrees : {Y V : Type 0} → Vec (String Y) V → BTreeMap (String Y) ℕ → Type 0
Agrees list numbers = (n : Name) → coded (get_by_text numbers n) ≡ coded (place (texts list) n)
