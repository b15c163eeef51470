-- One more transition, or state, has been looked at where marks are made.
use Rattle.std.proofs.Common.{◌≡◌, ℕ, ◌+◌, ◌*◌, ◌<◌, cond, ◌&&◌, eqb, List, length, get_or, set, sym, ap, ◌∙◌, subst, inl, inr, arith}
use Rattle.std.proofs.lemmas.Bool.{cases_eq, cases_Bool, and_parts, and_from, eq-eqb, ne_eqb, eqb-true, cond-true, cond-false, both_ways}
use Rattle.lent.specs.Bits.{bit_at, FirstDifference}
use Rattle.chains.specs.System.{source_at, label_at, target_at, Chained}
use Rattle.chains.proofs.Walking.{At, Stepped, at_next, before_next}
use Rattle.formulas.specs.Link.{row_of}
use Rattle.formulas.specs.Marks.{Tells, Enters, Holding, TermAt, Terms, TermMarked}
use Rattle.formulas.proofs.Slices.{set_here, set_else, below_or}

-- what tells P tells what is as much
pub tells_as : (x : ℕ) (P Q : Type 0) → (P → Q) → (Q → P) → Tells x P → Tells x Q
tells_as x P Q f g h = elim h [ inl (e, p) ↦ inl (e, f p) | inr (e, n) ↦ inr (e, λ q. n (g q)) ]

-- what stands below k stands below k + 1
enters_up : (ws marks : List ℕ) (a k s : ℕ) → Enters ws marks a k s → Enters ws marks a (k + 1) s
enters_up ws marks a k s e = record { place = e.place; below = let h = e.below in omega arith; source = e.source; label = e.label; marked = e.marked }

-- and what stands below k + 1 stands below k, unless transition k is such
enters_down : (ws marks : List ℕ) (a k s : ℕ) → (source_at ws k ≡ s → label_at ws k ≡ a → get_or marks (target_at ws k) 0 ≡ 1 → ⊥) → Enters ws marks a (k + 1) s → Enters ws marks a k s
enters_down ws marks a k s n e = elim (below_or e.place k e.below) [
  | inl h ↦ record { place = e.place; below = h; source = e.source; label = e.label; marked = e.marked }
  | inr h ↦ absurd (n (sym (ap (source_at ws) h) ∙ e.source) (sym (ap (label_at ws) h) ∙ e.label) (sym (ap (λ j. get_or marks (target_at ws j) 0) h) ∙ e.marked))
]

-- transition k marks its source
holding_marked : (ws marks holds : List ℕ) (a k : ℕ) → source_at ws k < length holds → label_at ws k ≡ a → get_or marks (target_at ws k) 0 ≡ 1 → Holding ws marks a k holds → (s : ℕ) → s < length holds
    → Tells (get_or (set holds (source_at ws k) 1) s 0) (Enters ws marks a (k + 1) s)
holding_marked ws marks holds a k b e m h s l = elim (cases_eq s (source_at ws k)) [
  | inl g ↦ inl (set_here holds (source_at ws k) s 1 b g, record { place = k; below = omega arith; source = sym g; label = e; marked = m })
  | inr g ↦ subst (λ x. Tells x (Enters ws marks a (k + 1) s)) (sym (set_else holds (source_at ws k) s 1 g))
      (tells_as (get_or holds s 0) (Enters ws marks a k s) (Enters ws marks a (k + 1) s) (enters_up ws marks a k s) (enters_down ws marks a k s (λ p q r. g (sym p))) (h s l))
]

-- transition k marks nothing
holding_unmarked : (ws marks holds : List ℕ) (a k : ℕ) → (label_at ws k ≡ a → get_or marks (target_at ws k) 0 ≡ 1 → ⊥) → Holding ws marks a k holds → Holding ws marks a (k + 1) holds
holding_unmarked ws marks holds a k n h s l =
    tells_as (get_or holds s 0) (Enters ws marks a k s) (Enters ws marks a (k + 1) s) (enters_up ws marks a k s) (enters_down ws marks a k s (λ p q r. n q r)) (h s l)

-- the step of the loop that marks sources
pub holding_more : (ws marks holds holds' : List ℕ) (a k : ℕ) → source_at ws k < length holds → length holds' ≡ length holds → Holding ws marks a k holds
    → holds' ≡ cond (eqb (label_at ws k) a && eqb (get_or marks (target_at ws k) 0) 1) (set holds (source_at ws k) 1) holds → Holding ws marks a (k + 1) holds'
holding_more ws marks holds holds' a k b n h e =
    let x = eqb (label_at ws k) a in
    let y = eqb (get_or marks (target_at ws k) 0) 1 in
    let yes = set holds (source_at ws k) 1 in
    elim (cases_Bool (x && y)) [
      | inl t ↦
          let p = and_parts x y t in
          λ s l. subst (λ zs. Tells (get_or zs s 0) (Enters ws marks a (k + 1) s)) (sym (e ∙ cond-true (x && y) yes holds t))
          (holding_marked ws marks holds a k b (eqb-true (label_at ws k) a p.0) (eqb-true (get_or marks (target_at ws k) 0) 1 p.1) h s (omega arith))
      | inr t ↦ subst (Holding ws marks a (k + 1)) (sym (e ∙ cond-false (x && y) yes holds t))
          (holding_unmarked ws marks holds a k (λ p q. both_ways (x && y) t (and_from x y (eq-eqb (label_at ws k) a p) (eq-eqb (get_or marks (target_at ws k) 0) 1 q))) h)
    ]

-- two rows that differ somewhere differ first in one place only
pub first_one : (xs ys : List ℕ) (i j : ℕ) → FirstDifference xs ys i → FirstDifference xs ys j → i < 32 * length xs → i ≡ j
first_one xs ys i j p q h =
    let up : j < i → ⊥ = λ l. q.differs (omega arith) (p.before j l) in
    let down : i < j → ⊥ = λ l. p.differs h (q.before i l) in
    omega arith

-- transition j of y is by a: its bit is in the mask now
terms_marked : (ws fs ns rows : List ℕ) (w a u y j p : ℕ) (before after : List ℕ) → Chained ws fs ns → j < length ns → At ws (length ns) y j → length (row_of rows w u) ≡ w
    → label_at ws j ≡ a → p < 32 * w → FirstDifference (row_of rows w u) (row_of rows w (target_at ws j)) p → ((q : ℕ) → bit_at after q ≡ cond (eqb q p) 1 (bit_at before q))
    → Terms ws rows w a u y j before → Terms ws rows w a u y (get_or ns j 0) after
terms_marked ws fs ns rows w a u y j p before after c h at l e hp d b ts q =
    let low = (c.next j h).low in
    elim (cases_eq q p) [
      | inl o ↦ inl (
        b q ∙ cond-true (eqb q p) 1 (bit_at before q) (eq-eqb q p o),
        record { place = j; below = omega arith; source = at.here h; label = e; first = subst (FirstDifference (row_of rows w u) (row_of rows w (target_at ws j))) (sym o) d },
      )
      | inr o ↦ subst (λ x. Tells x (TermAt ws rows w a u y (get_or ns j 0) q)) (sym (b q ∙ cond-false (eqb q p) 1 (bit_at before q) (ne_eqb q p o)))
          (tells_as (bit_at before q) (TermAt ws rows w a u y j q) (TermAt ws rows w a u y (get_or ns j 0) q)
          (λ t. record { place = t.place; below = let g = t.below in omega arith; source = t.source; label = t.label; first = t.first })
          (λ t. elim (before_next ws fs ns y j t.place c h at t.below t.source) [
            | inl g ↦ absurd (o (sym (first_one (row_of rows w u) (row_of rows w (target_at ws j)) p q d (subst (λ i. FirstDifference (row_of rows w u) (row_of rows w (target_at ws i)) q) g t.first) (omega arith))))
            | inr g ↦ record { place = t.place; below = g; source = t.source; label = t.label; first = t.first }
          ]) (ts q))
    ]

-- it is by another label: the mask stays
terms_stay : (ws fs ns rows : List ℕ) (w a u y j : ℕ) (mask : List ℕ) → Chained ws fs ns → j < length ns → At ws (length ns) y j → (label_at ws j ≡ a → ⊥)
    → Terms ws rows w a u y j mask → Terms ws rows w a u y (get_or ns j 0) mask
terms_stay ws fs ns rows w a u y j mask c h at e ts q =
    let low = (c.next j h).low in
    tells_as (bit_at mask q) (TermAt ws rows w a u y j q) (TermAt ws rows w a u y (get_or ns j 0) q)
    (λ t. record { place = t.place; below = let g = t.below in omega arith; source = t.source; label = t.label; first = t.first })
    (λ t. elim (before_next ws fs ns y j t.place c h at t.below t.source) [
      | inl g ↦ absurd (e (subst (λ i. label_at ws i ≡ a) g t.label))
      | inr g ↦ record { place = t.place; below = g; source = t.source; label = t.label; first = t.first }
    ]) (ts q)

-- the step of the loop that marks terms
pub terms_next : (ws fs ns rows : List ℕ) (w a u y at j v : ℕ) (before after : List ℕ) → Chained ws fs ns → Stepped ns at j v → At ws (length ns) y at → length (row_of rows w u) ≡ w
    → Terms ws rows w a u y at before → TermMarked ws rows w a u j before after → At ws (length ns) y v × Terms ws rows w a u y v after
terms_next ws fs ns rows w a u y at j v before after c st at' l ts' m =
    subst (λ i. At ws (length ns) y i × Terms ws rows w a u y i after) st.on (
      at_next ws fs ns y j c st.within here,
      elim (cases_eq (label_at ws j) a) [
        | inl e ↦ let (p, hp, d, b) = m.marked e in terms_marked ws fs ns rows w a u y j p before after c st.within here l e hp d b ts
        | inr e ↦ subst (Terms ws rows w a u y (get_or ns j 0)) (sym (m.other e)) (terms_stay ws fs ns rows w a u y j before c st.within here e ts)
      ],
    )
  where
    here : At ws (length ns) y j
    here = subst (λ i. At ws (length ns) y i) st.was at'

    ts : Terms ws rows w a u y j before
    ts = subst (λ i. Terms ws rows w a u y i before) st.was ts'

-- before the first transition of y there is no term
pub terms_none : (ws fs ns rows : List ℕ) (w a u y : ℕ) (mask : List ℕ) → Chained ws fs ns → y < length fs → ((q : ℕ) → bit_at mask q ≡ 0) → Terms ws rows w a u y (get_or fs y 0) mask
terms_none ws fs ns rows w a u y mask c h z q = inr (z q, λ t. (c.first y h).none t.place (omega arith) t.below t.source)
