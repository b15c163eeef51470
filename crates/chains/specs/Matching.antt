-- Which transition of one state another does not match: each into the same block, as an array of blocks says.
use Rattle.std.specs.Prelude.{◌≡◌, ℕ, suc, ◌*◌, ◌<◌, ◌≤◌, Bool, List, length, Some, None, Option, ◌==◌, ◌≢◌, slice_index}
use Rattle.std.proofs.Math.Option.{some, none}
use Rattle.theory.specs.Births.{unmatched}
use Rattle.chains.specs.System.{source_at, label_at, target_at, transition_at, machine_of}
use Rattle.chains.specs.Labels.{in_set}

-- the block that transition j leads into
abbrev pub block_at : List ℕ → List ℕ → ℕ → ℕ
block_at ws old j = slice_index old (target_at ws j)

-- u and v are in one block
abbrev pub related : List ℕ → ℕ → ℕ → Bool
related old u v = slice_index old u == slice_index old v

-- each transition of s before k has one like it among those of s before i: by the same label into the same block
abbrev pub Covered : List ℕ → List ℕ → ℕ → ℕ → ℕ → Type 0
Covered ws old s i k = (t : ℕ) → t < k → source_at ws t ≡ s
    → ∥ ((r : ℕ) × (r < i) × (source_at ws r ≡ s) × (label_at ws r ≡ label_at ws t) × (block_at ws old r ≡ block_at ws old t)) ∥₁

-- v is a transition of s from i on, or g, how many transitions there are, and those of s before it are like one before i
pub record SkipsTo (ws old : List ℕ) (g i s v : ℕ) : Type 0 where
  pub low : i ≤ v
  pub high : v ≤ g
  pub here : v < g → source_at ws v ≡ s
  pub covered : Covered ws old s i v

-- chains that leave out only transitions that are like one before them
pub record Represented (ws old fs ns : List ℕ) : Type 0 where
  pub whole : length ws ≡ 3 * length ns
  pub first : (s : ℕ) → s < length fs → SkipsTo ws old (length ns) 0 s (slice_index fs s)
  pub next : (j : ℕ) → j < length ns → SkipsTo ws old (length ns) (suc j) (source_at ws j) (slice_index ns j)

-- transition j is the first of its state by its label into its block
abbrev pub FirstOfKind : List ℕ → List ℕ → ℕ → Type 0
FirstOfKind ws old j = (t : ℕ) → t < j → source_at ws t ≡ source_at ws j → label_at ws t ≡ label_at ws j → block_at ws old t ≢ block_at ws old j

-- a link to v from transition j of g leads from a first of its kind to another, if not to the end
abbrev pub LeadsOn : List ℕ → List ℕ → ℕ → ℕ → ℕ → Type 0
LeadsOn ws old g j v = FirstOfKind ws old j → v < g → FirstOfKind ws old v

-- of the first g transitions those of x lead into blocks with empty sets
abbrev pub Emptied : List ℕ → List ℕ → ℕ → ℕ → List ℕ → Type 0
Emptied ws old g x sets = (t : ℕ) → t < g → source_at ws t ≡ x → (a : ℕ) → a < 64 → in_set sets (block_at ws old t) a ≡ 0

-- the label of transition t is in the set of the block that it leads into
abbrev pub Listed : List ℕ → List ℕ → List ℕ → ℕ → Type 0
Listed ws old sets t = in_set sets (block_at ws old t) (label_at ws t) ≡ 1

-- so it is for those of x of the first g transitions
abbrev pub AllListed : List ℕ → List ℕ → ℕ → ℕ → List ℕ → Type 0
AllListed ws old g x sets = (t : ℕ) → t < g → source_at ws t ≡ x → Listed ws old sets t

-- of the first g transitions those of y are listed, and no label else came into a set
pub record Added (ws old : List ℕ) (g y : ℕ) (before after : List ℕ) : Type 0 where
  pub listed : AllListed ws old g y after
  pub only : (b a : ℕ) → a < 64 → in_set before b a ≡ 0 → in_set after b a ≡ 1
      → (t : ℕ) × (t < g) × (source_at ws t ≡ y) × (label_at ws t ≡ a) × (block_at ws old t ≡ b)

-- transition j of x is not listed, and all of x before it are
pub record Missing (ws old : List ℕ) (g x : ℕ) (sets : List ℕ) (j : ℕ) : Type 0 where
  pub within : j < g
  pub of : source_at ws j ≡ x
  pub missing : Listed ws old sets j → ⊥
  pub before : AllListed ws old j x sets

-- the first transition of x that is not listed, if there is one
abbrev pub FirstMissing : List ℕ → List ℕ → ℕ → ℕ → List ℕ → Option ℕ → Type 0
FirstMissing ws old g x sets None = AllListed ws old g x sets
FirstMissing ws old g x sets (Some j) = Missing ws old g x sets j

-- transition j is the first of x that y does not match into the same block
pub record Found (ws old : List ℕ) (n g x y j : ℕ) : Type 0 where
  pub within : j < g
  pub of : source_at ws j ≡ x
  pub is : unmatched (machine_of n ws) (related old) x y ≡ some (transition_at ws j)

-- the first transition of x that y does not match into the same block, if there is one
abbrev pub FirstUnmatched : List ℕ → List ℕ → ℕ → ℕ → ℕ → ℕ → Option ℕ → Type 0
FirstUnmatched ws old n g x y None = unmatched (machine_of n ws) (related old) x y ≡ none
FirstUnmatched ws old n g x y (Some j) = Found ws old n g x y j
