-- Leaders after a split: a block's states that answer otherwise than its leader become a block.
use Rattle.std.specs.Prelude.{◌≡◌, ℕ, ◌<◌, ◌≤◌, cond, List, length, ◌==◌, ◌≢◌, slice_index, slice_index_or, slice_set}

-- x is the least that q leads and that answers otherwise than q
pub record Apart (leads holds : List ℕ) (q x : ℕ) : Type 0 where
  pub led : slice_index_or leads x 0 ≡ q
  pub differs : slice_index_or holds x 0 ≡ slice_index holds q → ⊥
  pub least : (z : ℕ) → z < x → slice_index leads z ≡ q → slice_index holds z ≡ slice_index holds q

-- new has the leaders after the split of the first k states, and those before it of the others
pub record Led (leads holds : List ℕ) (k : ℕ) (new : List ℕ) : Type 0 where
  pub stays : (t : ℕ) → t < k → slice_index holds t ≡ slice_index holds (slice_index leads t) → slice_index new t ≡ slice_index leads t
  pub moves : (t : ℕ) → t < k → (slice_index holds t ≢ slice_index holds (slice_index leads t)) → Apart leads holds (slice_index leads t) (slice_index new t)
  pub later : (t : ℕ) → k ≤ t → slice_index new t ≡ slice_index leads t

-- parts has for each leader the first of its states below k that answers otherwise, or as many as there are states
pub record Parted (leads holds : List ℕ) (k : ℕ) (parts : List ℕ) : Type 0 where
  pub none : (q : ℕ) → q < length leads → slice_index parts q ≡ length leads → (z : ℕ) → z < k → slice_index leads z ≡ q → slice_index holds z ≡ slice_index holds q
  pub some : (q : ℕ) → q < length leads → (slice_index parts q ≢ length leads) → Apart leads holds q (slice_index parts q)

-- the first state of the part that breaks off from q's block once t has: n is none
abbrev pub part_with : List ℕ → ℕ → ℕ → ℕ → ℕ
part_with parts n q t = cond (slice_index parts q == n) t (slice_index parts q)

-- what becomes of leaders and parts when t has been looked at
pub record Moved (leads holds parts : List ℕ) (t : ℕ) (leads' parts' : List ℕ) : Type 0 where
  pub same_leads : slice_index_or holds t 0 ≡ slice_index holds (slice_index leads t) → leads' ≡ leads
  pub same_parts : slice_index_or holds t 0 ≡ slice_index holds (slice_index leads t) → parts' ≡ parts
  pub other_leads : (slice_index holds t ≢ slice_index holds (slice_index leads t)) → leads' ≡ slice_set leads t (part_with parts (length leads) (slice_index leads t) t)
  pub other_parts : (slice_index holds t ≢ slice_index holds (slice_index leads t)) → parts' ≡ slice_set parts (slice_index leads t) (part_with parts (length leads) (slice_index leads t) t)
