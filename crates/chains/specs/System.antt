-- A machine in words: three for each transition, and chains that lead from each transition to the next with the same source.
use Rattle.std.specs.Prelude.{◌≡◌, ℕ, suc, ◌+◌, ◌*◌, ◌<◌, ◌≤◌, List, length, ◌≢◌, slice_index}
use Rattle.lts.specs.declared.Transition.{Transition}
use Rattle.lts.specs.Machine.{Machine}
use Rattle.lts.specs.Decoding.{transitions_of}

-- transition j
abbrev pub source_at : List ℕ → ℕ → ℕ
source_at ws j = slice_index ws (3 * j)

abbrev pub label_at : List ℕ → ℕ → ℕ
label_at ws j = slice_index ws (3 * j + 1)

abbrev pub target_at : List ℕ → ℕ → ℕ
target_at ws j = slice_index ws (3 * j + 2)

abbrev pub transition_at : List ℕ → ℕ → Transition
transition_at ws j = record { source = source_at ws j; label = label_at ws j; target = target_at ws j }

abbrev pub machine_of : ℕ → List ℕ → Machine
machine_of n ws = record { states = n; transitions = transitions_of ws }

-- v is the first index from i on with source s, or g, how many transitions there are
pub record NextFrom (ws : List ℕ) (g i s v : ℕ) : Type 0 where
  pub low : i ≤ v
  pub high : v ≤ g
  pub here : v < g → source_at ws v ≡ s
  pub none : (t : ℕ) → i ≤ t → t < v → source_at ws t ≢ s

-- for each state its first transition, and for each transition the next with the same source
pub record Chained (ws fs ns : List ℕ) : Type 0 where
  pub whole : length ws ≡ 3 * length ns
  pub first : (s : ℕ) → s < length fs → NextFrom ws (length ns) 0 s (slice_index fs s)
  pub next : (j : ℕ) → j < length ns → NextFrom ws (length ns) (suc j) (source_at ws j) (slice_index ns j)

-- the same of what is chained from the last transition down to transition i
pub record Linked (ws : List ℕ) (g i : ℕ) (fs ns : List ℕ) : Type 0 where
  pub first : (s : ℕ) → s < length fs → NextFrom ws g i s (slice_index fs s)
  pub next : (j : ℕ) → i ≤ j → j < g → NextFrom ws g (suc j) (source_at ws j) (slice_index ns j)

-- all transitions are between states below n, by labels below 64
pub record Bounded (n : ℕ) (ws next : List ℕ) : Type 0 where
  pub source : (j : ℕ) → j < length next → source_at ws j < n
  pub label : (j : ℕ) → j < length next → label_at ws j < 64
  pub target : (j : ℕ) → j < length next → target_at ws j < n
