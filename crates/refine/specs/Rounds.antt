-- What the loops of refinement keep.
use Rattle.std.specs.Prelude.{◌≡◌, ℕ, suc, ◌+◌, ◌*◌, ◌<◌, ◌≤◌, min, Bool, true, false, List, length, slice_index, slice_index_or}
use Rattle.lts.specs.Machine.{Machine}
use Rattle.theory.specs.Blocks.{leader}
use Rattle.theory.specs.Births.{Birth, alike, settle, sweep, rounds, births, Extends}
use Rattle.theory.proofs.Growth.{Settled}
use Rattle.chains.specs.System.{Chained, Bounded}
use Rattle.formulas.specs.Link.{births_of, Link}

-- a machine with its chains, and rows wide enough for all formulas that there can be
pub record Fixed (ws fs ns : List ℕ) (w : ℕ) : Type 0 where
  pub chained : Chained ws fs ns
  pub bounded : Bounded (length fs) ws ns
  pub some : 1 ≤ length fs
  pub few : length fs ≤ 4096
  pub wide : min (length fs) (length ns + 1) ≤ 32 * w
  pub narrow : w ≤ 128

-- the array holds the leaders after k rounds
pub record Begun (m : Machine) (k : ℕ) (old : List ℕ) : Type 0 where
  pub each : length old ≡ m.states
  pub leaders : (s : ℕ) → s < m.states → slice_index old s ≡ leader (alike m (rounds m k)) s

-- in the round after the first k the states below s are settled, and the arrays hold what there is then
pub record Sofar (m : Machine) (k s w : ℕ) (births : List ℕ) (count : ℕ) (rows leads : List ℕ) : Type 0 where
  pub born : births_of births count ≡ sweep m (alike m (rounds m k)) (suc k) s (rounds m k)
  pub link : Link m (births_of births count) rows w leads

-- in round k + 1, which began with the births old, s is being settled, and bs are the births now
pub record Turning (m : Machine) (k : ℕ) (old : List Birth) (s : ℕ) (bs : List Birth) : Type 0 where
  pub extends : Extends bs old
  pub settled : Settled m (suc k) s bs
  pub same : settle m (alike m old) (suc k) s s bs ≡ sweep m (alike m old) (suc k) (suc s) old

-- a turn that settles s either adds a birth, which parts s from its leader, or ends: nothing parts s from its leader any more
pub record TurnedOn (m : Machine) (k s w count : ℕ) (leads births' rows' leads' : List ℕ) : Type 0 where
  pub turning : Turning m k (rounds m k) s (births_of births' (count + 1))
  pub link : Link m (births_of births' (count + 1)) rows' w leads'
  pub rises : slice_index_or leads s 0 < slice_index leads' s

abbrev pub Turned : Bool → Machine → ℕ → ℕ → ℕ → ℕ → List ℕ → List ℕ → List ℕ → List ℕ → Type 0
Turned true m k s w count leads births' rows' leads' = TurnedOn m k s w count leads births' rows' leads'
Turned false m k s w count leads births' rows' leads' = Sofar m k (suc s) w births' count rows' leads'

-- after k rounds, each of which added a birth, the arrays hold what there is then
pub record After (m : Machine) (k w : ℕ) (births : List ℕ) (count : ℕ) (rows leads : List ℕ) : Type 0 where
  pub born : births_of births count ≡ rounds m k
  pub link : Link m (births_of births count) rows w leads
  pub grew : (j : ℕ) → j < k → length (rounds m j) < length (rounds m (suc j))

-- all rounds: no later one adds anything
pub record Done (m : Machine) (k w : ℕ) (bw : List ℕ) (count : ℕ) (rows leads : List ℕ) : Type 0 where
  pub born : births_of bw count ≡ births m
  pub link : Link m (births m) rows w leads
  pub last : births m ≡ rounds m k
  pub grew : (j : ℕ) → j < k → length (rounds m j) < length (rounds m (suc j))
