-- A round that parts nothing is the last that could, and comes soon; what is then together is bisimilar.
use Rattle.std.proofs.Common.{ℕ, zero, suc, ◌+◌, ◌<◌, ◌≤◌, Bool, ◌&&◌, T, ltb, leb, ◌⊎◌, List, [], ◌∷◌, length, inl, inr, add-zero, add-suc, arith, ltb→lt}
use Rattle.lts.specs.declared.Transition.{Transition}
use Rattle.lts.specs.Machine.{Machine, Among}
use Rattle.lts.specs.Question.{Question, Encodes, within}
use Rattle.lts.specs.Bisimulation.{Bisimilar}
use Rattle.theory.specs.Together.{together, Matched, Closed, Told, SameTo, PartsNothing}
use Rattle.theory.specs.Blocks.{Equivalence, blocks}
use Rattle.theory.proofs.Bools.{T-or_not, and_0, and_1}
use Rattle.theory.proofs.Rounds.{together_in, together_forth, together_back, together_refl, together_sym, together_trans, together_shrinks}
use Rattle.theory.proofs.Agreement.{together_agrees, agrees_together, parted_told}
use Rattle.theory.proofs.Bisimilarity.{bisimilar_states}
use Rattle.theory.proofs.Leaders.{blocks_le, blocks_pos, blocks_more}
use Rattle.theory.proofs.Steps.{among_cons, not_among}
use Rattle.std.proofs.lemmas.Bool.{cases_lt}

-- together is an equivalence, as a record
pub together_equivalence : (m : Machine) (k : ℕ) → Equivalence (together m k)
together_equivalence m k = record { itself = together_refl m k; turned = together_sym m k; over = together_trans m k }

matched_still : (m : Machine) → Closed m → (k s t : ℕ) → PartsNothing m k → Matched m (together m k) s t → Matched m (together m (suc k)) s t
matched_still m closed k s t still h a u g =
    let (v, p, q) = h a u g in
    (v, p, still u v (closed s a u g) (closed t a v p) q)

-- when a round parts nothing, the next does not either
pub still_next : (m : Machine) → Closed m → (k : ℕ) → PartsNothing m k → PartsNothing m (suc k)
still_next m closed k still s t hs ht h = together_in m (suc k) s t
    (matched_still m closed k s t still (together_forth m k s t h))
    (matched_still m closed k t s still (together_back m k s t h))

-- nor any later one
pub still_later : (m : Machine) → Closed m → (k j : ℕ) → PartsNothing m k → PartsNothing m (k + j)
still_later m closed k zero still = rw add-zero still
still_later m closed k (suc j) still = rw add-suc (still_next m closed (k + j) (still_later m closed k j still))

-- so what is together then is together for good
pub together_later : (m : Machine) → Closed m → (k j : ℕ) → PartsNothing m k → (s t : ℕ) → s < m.states → t < m.states → T (together m k s t) → T (together m (k + j) s t)
together_later m closed k zero still s t hs ht h = rw add-zero h
together_later m closed k (suc j) still s t hs ht h = rw add-suc (still_later m closed k j still s t hs ht (together_later m closed k j still s t hs ht h))

-- and is bisimilar
pub together_bisimilar : (m : Machine) → Closed m → (k : ℕ) → PartsNothing m k → (s t : ℕ) → s < m.states → t < m.states → T (together m k s t) → Bisimilar m s t
together_bisimilar m closed k still = bisimilar_states m closed (together m k)
    (λ x y a u hx hy h g. together_forth m k x y (still x y hx hy h) a u g)
    (λ x y a v hx hy h g. let (u, p, q) = together_back m k x y (still x y hx hy h) a v g in (u, p, together_sym m k v u q))

-- a round that makes no block parts nothing
pub no_block_still : (m : Machine) (k : ℕ) → blocks (together m (suc k)) m.states ≤ blocks (together m k) m.states → PartsNothing m k
no_block_still m k h s t hs ht g = elim (T-or_not (together m (suc k) s t)) [
  | inl p ↦ p
  | inr p ↦ absurd (omega (arith, blocks_more (together m k) (together m (suc k)) (together_equivalence m k) (together_equivalence m (suc k)) (together_shrinks m k) m.states s t hs ht g p))
]

-- each round parts nothing, or there are by then two blocks more than its number
blocks_grow : (m : Machine) → Closed m → 0 < m.states → (k : ℕ) → PartsNothing m k ⊎ (suc k < blocks (together m (suc k)) m.states)
blocks_grow m closed pos zero = elim (cases_lt (blocks (together m 0) m.states) (blocks (together m 1) m.states)) [
  | inl h ↦ inr (omega (arith, blocks_pos (together m 0) m.states pos))
  | inr h ↦ inl (no_block_still m 0 h)
]
blocks_grow m closed pos (suc k) = elim (blocks_grow m closed pos k) [
  | inl still ↦ inl (still_next m closed k still)
  | inr g ↦ elim (cases_lt (blocks (together m (suc k)) m.states) (blocks (together m (suc (suc k))) m.states)) [
    | inl h ↦ inr (omega arith)
    | inr h ↦ inl (no_block_still m (suc k) h)
  ]
]

-- at most one round fewer than there are states part anything
pub few_rounds : (m : Machine) → Closed m → (k : ℕ) → m.states ≤ suc k → PartsNothing m k
few_rounds m closed k h s t hs ht = elim (blocks_grow m closed (omega arith) k) [
  | inl still ↦ still s t hs ht
  | inr g ↦ absurd (omega (arith, blocks_le (together m (suc k)) m.states))
]

-- two states are bisimilar, or told apart by a formula no deeper than there are states
pub bisimilar_or_told : (m : Machine) → Closed m → (s t : ℕ) → s < m.states → t < m.states → Bisimilar m s t ⊎ Told m m.states s t
bisimilar_or_told m closed s t hs ht = elim (T-or_not (together m m.states s t)) [
  | inl h ↦ inl (together_bisimilar m closed m.states (few_rounds m closed m.states (omega arith)) s t hs ht h)
  | inr h ↦ inr (parted_told m m.states s t h)
]

-- if one step more tells no more states apart, no more steps do
pub no_deeper : (m : Machine) → Closed m → (n k : ℕ)
    → ((s t : ℕ) → s < m.states → t < m.states → SameTo m n s t → SameTo m (suc n) s t)
    → (s t : ℕ) → s < m.states → t < m.states → SameTo m n s t → SameTo m (n + k) s t
no_deeper m closed n k h s t hs ht g =
    let still : PartsNothing m n = λ x y hx hy p. agrees_together m (suc n) x y (h x y hx hy (together_agrees m n x y p)) in
    together_agrees m (n + k) s t (together_later m closed n k still s t hs ht (agrees_together m n s t g))

-- what a question's limits give: its machine is closed, and the two are states
within_closed : (n : ℕ) (ts : List Transition) → T (within n ts) → (x : Transition) → Among x ts → x.target < n
within_closed n [] h x g = not_among g
within_closed n (t ∷ ts) h x g =
    let w = and_0 (ltb t.source n && (ltb t.target n && ltb t.label 64)) (within n ts) h in
    let w' = and_1 (ltb t.source n) (ltb t.target n && ltb t.label 64) w in
    among_cons (λ (y : Transition). y.target < n) (ltb→lt t.target n (and_0 (ltb t.target n) (ltb t.label 64) w'))
    (λ p. within_closed n ts (and_1 (ltb t.source n && (ltb t.target n && ltb t.label 64)) (within n ts) h) x p) g

-- a test of a question's form, taken apart
six : (a b c d e f : Bool) → T ((a && b) && ((c && d) && (e && f))) → T d × T e × T f
six a b c d e f h =
    let g = and_1 (a && b) ((c && d) && (e && f)) h in
    let i = and_1 (c && d) (e && f) g in
    (and_1 c d (and_0 (c && d) (e && f) g), and_0 e f i, and_1 e f i)

-- a question within the limits has a closed machine and two of its states
pub question_fine : (w : List ℕ) (q : Question) → Encodes w q → Closed q.machine × (q.first < q.machine.states) × (q.second < q.machine.states)
question_fine w q h =
    let n = q.machine.states in
    let ts = q.machine.transitions in
    let (d, e, f) = six (leb 1 n) (leb n 4096) (leb (length ts) 16384) (within n ts) (ltb q.first n) (ltb q.second n) h.fine in
    ((λ s a u g. within_closed n ts d (record { source = s; label = a; target = u }) g), ltb→lt q.first n e, ltb→lt q.second n f)
