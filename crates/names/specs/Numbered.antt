-- What the contracts of Names cite.
use Rattle.std.specs.Prelude.{◌≡◌, ℕ, List, Some}
use Rattle.names.specs.declared.table.Names.{Names}
use Rattle.names.specs.Places.{Name, place, noted}
use Rattle.names.specs.Table.{texts}

-- the names in the order of their numbers
abbrev pub names : Names → List Name
names v = texts v.list

-- w is v with n noted, and i is its number
pub record Noted (v : Names) (n : Name) (i : ℕ) (w : Names) : Type 0 where
  pub now_names : names w ≡ noted (names v) n
  pub number : place (names w) n ≡ Some i
