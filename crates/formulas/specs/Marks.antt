-- What states and bits get when a formula is added: of the first k, so that it speaks of a loop at its k-th turn and at its end.
use Rattle.std.specs.Prelude.{◌≡◌, ℕ, ◌+◌, ◌*◌, ◌<◌, ◌≤◌, cond, ◌&&◌, ◌⊎◌, List, length, ◌==◌, ◌≢◌, slice_index, slice_index_or}
use Rattle.lent.specs.Bits.{bit_at, FirstDifference, Agree}
use Rattle.chains.specs.System.{source_at, label_at, target_at}
use Rattle.formulas.specs.Link.{row_of}

-- x is 1 if P, else 0
abbrev pub Tells : ℕ → Type 0 → Type 0
Tells x P = ((x ≡ 1) × P) ⊎ ((x ≡ 0) × (P → ⊥))

-- one of the first k transitions leads from y by a to a state whose row differs from u's in bit q first
pub record TermAt (ws rows : List ℕ) (w a u y k q : ℕ) : Type 0 where
  pub place : ℕ
  pub below : place < k
  pub source : source_at ws place ≡ y
  pub label : label_at ws place ≡ a
  pub first : FirstDifference (row_of rows w u) (row_of rows w (target_at ws place)) q

-- the mask has those bits
abbrev pub Terms : List ℕ → List ℕ → ℕ → ℕ → ℕ → ℕ → ℕ → List ℕ → Type 0
Terms ws rows w a u y k mask = (q : ℕ) → Tells (bit_at mask q) (TermAt ws rows w a u y k q)

-- in the mask after, the bit is set in which the row of the target of transition j differs from u's first, if the transition is by a
pub record TermMarked (ws rows : List ℕ) (w a u j : ℕ) (before after : List ℕ) : Type 0 where
  pub other : (label_at ws j ≢ a) → after ≡ before
  pub marked : label_at ws j ≡ a → (p : ℕ) × (p < 32 * w) × FirstDifference (row_of rows w u) (row_of rows w (target_at ws j)) p × ((q : ℕ) → bit_at after q ≡ cond (q == p) 1 (bit_at before q))

-- each of the first k states has the mark exactly if its row agrees with u's on the mask of terms
abbrev pub Agreeing : List ℕ → ℕ → ℕ → List ℕ → ℕ → List ℕ → Type 0
Agreeing rows w u mask k marks = (v : ℕ) → v < k → Tells (slice_index marks v) (Agree (row_of rows w u) (row_of rows w v) mask)

-- one of the first k transitions leads from s by a to a state with the mark
pub record Enters (ws marks : List ℕ) (a k s : ℕ) : Type 0 where
  pub place : ℕ
  pub below : place < k
  pub source : source_at ws place ≡ s
  pub label : label_at ws place ≡ a
  pub marked : slice_index_or marks (target_at ws place) 0 ≡ 1

-- the states with such a transition have 1, the others 0
abbrev pub Holding : List ℕ → List ℕ → ℕ → ℕ → List ℕ → Type 0
Holding ws marks a k holds = (s : ℕ) → s < length holds → Tells (slice_index holds s) (Enters ws marks a k s)

-- bit q of a row in which bit p is set if the state holds the formula
abbrev pub bit_with : ℕ → ℕ → ℕ → ℕ → ℕ
bit_with p q x old = cond (q == p && x == 1) 1 old

-- in new, bit p is set in the rows of those of the first k states that hold the formula; all else is as it was
pub record Extended (rows holds : List ℕ) (w p k : ℕ) (new : List ℕ) : Type 0 where
  pub done : (s q : ℕ) → s < k → bit_at (row_of new w s) q ≡ bit_with p q (slice_index holds s) (bit_at (row_of rows w s) q)
  pub later : (s : ℕ) → k ≤ s → s < length holds → row_of new w s ≡ row_of rows w s

-- in new, bit p of the row of s is set if s holds the formula; the other rows are as they were
pub record RowExtended (rows holds : List ℕ) (w p s : ℕ) (new : List ℕ) : Type 0 where
  pub here : (q : ℕ) → bit_at (row_of new w s) q ≡ bit_with p q (slice_index holds s) (bit_at (row_of rows w s) q)
  pub other : (t : ℕ) → (t ≢ s) → t * w + w ≤ length rows → row_of new w t ≡ row_of rows w t

-- the rows of u and v differ
abbrev pub Differing : List ℕ → ℕ → ℕ → ℕ → Type 0
Differing rows w u v = (i : ℕ) × (i < 32 * w) × (bit_at (row_of rows w u) i ≢ bit_at (row_of rows w v) i)

-- holds tells of each of n states whether it has a transition by a into a state that agrees with u on the terms
pub record Evaluated (ws rows : List ℕ) (w a u y g n : ℕ) (holds : List ℕ) : Type 0 where
  pub mask : List ℕ
  pub marks : List ℕ
  pub wide : length mask ≡ w
  pub terms : Terms ws rows w a u y g mask
  pub agreeing : Agreeing rows w u mask n marks
  pub holding : Holding ws marks a g holds
