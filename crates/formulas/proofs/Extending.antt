-- Rows of words: where they lie, and what a write into one leaves.
use Rattle.std.proofs.Common.{◌≡◌, ℕ, suc, ◌+◌, ◌-◌, ◌*◌, ◌<◌, ◌≤◌, Bool, true, false, cond, ◌&&◌, eqb, List, length, get_or, take, drop, set, sym, refl, ap, ◌∙◌, subst, inl, inr, arith, length-drop, length-take}
use borrow.Rule.Slice.PartMut.{put_mid}
use Rattle.std.proofs.lemmas.Nat.{mul-le}
use Rattle.std.proofs.lemmas.List.{drop-take}
use Rattle.std.proofs.lemmas.Slice.{between-put_mid, take-put_mid_below, drop-put_mid}
use Rattle.std.proofs.lemmas.Bool.{cases_lt}
use Rattle.lent.specs.Bits.{bit_at, Agree}
use Rattle.formulas.specs.Link.{row_of}
use Rattle.formulas.specs.Marks.{Tells, Agreeing, RowExtended, bit_with}
use Rattle.formulas.proofs.Slices.{set_here, set_else, below_or}

-- a row ends before a later one begins, and within the rows
pub row_end : (s n w : ℕ) → s < n → s * w + w ≤ n * w
row_end s n w h = omega (arith, mul-le (suc s) w n w (omega arith) (omega arith))

-- it has w words
pub row_long : (rows : List ℕ) (w s : ℕ) → s * w + w ≤ length rows → length (row_of rows w s) ≡ w
row_long rows w s h = simp (length-take, length-drop) (omega arith)

-- so has the part of the rows as it is lent
pub part_long : (rows : List ℕ) (w s : ℕ) → s * w + w ≤ length rows → length (take (s * w + w - s * w) (drop (s * w) rows)) ≡ s * w + w - s * w
part_long rows w s h = simp (length-take, length-drop) (omega arith)

-- it is the part that was written
put_here : (rows ys : List ℕ) (w s k : ℕ) → k ≡ s * w + w - s * w → s * w + w ≤ length rows → length ys ≡ k → row_of (put_mid (s * w) k rows ys) w s ≡ ys
put_here rows ys w s k e h l =
    let o : w ≡ s * w + w - s * w = omega arith in
    ap (λ i. take i (drop (s * w) (put_mid (s * w) k rows ys))) o ∙ between-put_mid (s * w) k rows ys (s * w + w) (omega arith) (omega arith)

-- or as it was
put_other : (rows ys : List ℕ) (w s t k : ℕ) → k ≡ s * w + w - s * w → s * w + w ≤ length rows → length ys ≡ k → (t ≡ s → ⊥) → row_of (put_mid (s * w) k rows ys) w t ≡ row_of rows w t
put_other rows ys w s t k e h l n = elim (cases_lt t s) [
  | inl p ↦
      let o = row_end t s w p in
      sym (drop-take (t * w) w (put_mid (s * w) k rows ys)) ∙ ap (drop (t * w)) (take-put_mid_below (s * w) k rows ys (t * w + w) o (omega arith)) ∙ drop-take (t * w) w rows
  | inr p ↦
      let o = row_end s t w (omega arith) in
      ap (take w) (drop-put_mid (s * w) k rows ys (t * w) (omega arith) (omega arith) l)
]

-- a row in which a bit was set
pub row_set : (rows holds ys : List ℕ) (w p s k : ℕ) → k ≡ s * w + w - s * w → s * w + w ≤ length rows → get_or holds s 0 ≡ 1 → length ys ≡ k
    → ((q : ℕ) → bit_at ys q ≡ cond (eqb q p) 1 (bit_at (take k (drop (s * w) rows)) q)) → RowExtended rows holds w p s (put_mid (s * w) k rows ys)
row_set rows holds ys w p s k e h x l b =
    let o : k ≡ w = omega arith in
    record {
      here = λ q. ap (λ r. bit_at r q) (put_here rows ys w s k e h l) ∙ b q ∙ ap (λ i. cond (eqb q p) 1 (bit_at (take i (drop (s * w) rows)) q)) o
          ∙ sym (bit_is q (get_or holds s 0) (bit_at (row_of rows w s) q) x);
      other = λ t n g. put_other rows ys w s t k e h l n;
    }
  where
    with_1 : (b : Bool) (old : ℕ) → cond (b && eqb 1 1) 1 old ≡ cond b 1 old
    with_1 true old = refl
    with_1 false old = refl

    bit_is : (q x old : ℕ) → x ≡ 1 → bit_with p q x old ≡ cond (eqb q p) 1 old
    bit_is q x old e = ap (λ y. bit_with p q y old) e ∙ with_1 (eqb q p) old

-- the step of the loop that marks states that agree
pub agreeing_more : (rows mask marks : List ℕ) (w u k x : ℕ) → k < length marks → Agreeing rows w u mask k marks → Tells x (Agree (row_of rows w u) (row_of rows w k) mask)
    → Agreeing rows w u mask (k + 1) (set marks k x)
agreeing_more rows mask marks w u k x h a t v l = elim (below_or v k l) [
  | inl o ↦ subst (λ y. Tells y (Agree (row_of rows w u) (row_of rows w v) mask)) (sym (set_else marks k v x (λ i. omega arith))) (a v o)
  | inr o ↦ subst (λ y. Tells y (Agree (row_of rows w u) (row_of rows w v) mask)) (sym (set_here marks k v x h o)) (subst (λ i. Tells x (Agree (row_of rows w u) (row_of rows w i) mask)) (sym o) t)
]
