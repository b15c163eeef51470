-- Rows and leaders stand for the births: what each mark means, and the link after a formula more.
use Rattle.std.proofs.Common.{◌≡◌, ℕ, zero, suc, ◌*◌, ◌<◌, Bool, true, false, cond, not, ◌&&◌, T, eqb, List, ◌∷◌, length, get_or, sym, refl, ap, ◌∙◌, subst, inl, inr, arith}
use Rattle.std.proofs.lemmas.Bool.{cases_eq, cases_lt, eq-eqb, ne_eqb, eqb-true}
use Rattle.lts.specs.Machine.{Machine, Step}
use Rattle.lts.specs.Formula.{Formula, satisfies}
use Rattle.theory.specs.Blocks.{leader}
use Rattle.theory.specs.Births.{Birth, same, formula, formulas, alike}
use Rattle.theory.specs.Rows.{agrees, answer, first, wanted}
use Rattle.theory.proofs.Bools.{T-is, is_T, and_in, and_0, and_1}
use Rattle.theory.proofs.Leaders.{leader_le}
use Rattle.theory.proofs.Least.{formulas_length}
use Rattle.theory.proofs.Answers.{answer_new, answer_old, answer_past, first_below, first_differs, first_agrees, agrees_mask, mask_agrees, satisfies_formula, leader_stays, leader_moves}
use Rattle.lent.specs.Bits.{bit_at, FirstDifference, Agree}
use Rattle.chains.specs.System.{source_at, label_at, target_at, machine_of, Chained, Bounded}
use Rattle.formulas.specs.Link.{Link, births_of, row_of}
use Rattle.formulas.specs.Marks.{Tells, TermAt, Terms, Agreeing, Enters, Holding, Extended, bit_with, Differing, Evaluated}
use Rattle.formulas.specs.Splits.{Led}
use Rattle.formulas.proofs.Extending.{row_end, row_long}
use Rattle.formulas.proofs.Marking.{first_one}
use Rattle.formulas.proofs.Transitions.{step_place, place_step, place_among}

-- equal bits are of equal tests
pub bit_test : (a b : Bool) → ◌≡◌ {A = ℕ} (cond a 1 0) (cond b 1 0) → a ≡ b
bit_test true true e = refl
bit_test true false e = absurd (omega arith)
bit_test false true e = absurd (omega arith)
bit_test false false e = refl

-- a bit that is 1 is of a test that passes
pub bit_T : (a : Bool) → ◌≡◌ {A = ℕ} (cond a 1 0) 1 → T a
bit_T true e = tt
bit_T false e = absurd (omega arith)

-- the other way round
pub T-bit : (a : Bool) → T a → ◌≡◌ {A = ℕ} (cond a 1 0) 1
T-bit true h = refl
T-bit false h = absurd h

-- a test that does not pass has the bit 0
pub not_bit : (a : Bool) → (T a → ⊥) → ◌≡◌ {A = ℕ} (cond a 1 0) 0
not_bit true h = absurd (h tt)
not_bit false h = refl

-- what tells a test is its bit
pub tells_bit : (x : ℕ) (a : Bool) → Tells x (T a) → x ≡ cond a 1 0
tells_bit x a h = elim h [ inl (e, p) ↦ e ∙ sym (T-bit a p) | inr (e, n) ↦ e ∙ sym (not_bit a n) ]

-- a row has w words
pub row_length : (rows : List ℕ) (n w s : ℕ) → length rows ≡ n * w → s < n → length (row_of rows w s) ≡ w
row_length rows n w s e h = let r = row_end s n w h in row_long rows w s (omega arith)

-- equal bits are equal answers
pub same_bits : {m : Machine} {bs : List Birth} {rows leads : List ℕ} {w : ℕ} → Link m bs rows w leads → (u v j : ℕ) → u < m.states → v < m.states → j < 32 * w
    → bit_at (row_of rows w u) j ≡ bit_at (row_of rows w v) j → answer m (formulas m bs) j u ≡ answer m (formulas m bs) j v
same_bits {m} {bs} {rows} {leads} {w} k u v j hu hv h e =
    bit_test (answer m (formulas m bs) j u) (answer m (formulas m bs) j v) (sym (k.bits u j hu h) ∙ e ∙ k.bits v j hv h)

-- equal answers are equal bits
pub bits_same : {m : Machine} {bs : List Birth} {rows leads : List ℕ} {w : ℕ} → Link m bs rows w leads → (u v j : ℕ) → u < m.states → v < m.states → j < 32 * w
    → answer m (formulas m bs) j u ≡ answer m (formulas m bs) j v → bit_at (row_of rows w u) j ≡ bit_at (row_of rows w v) j
bits_same k u v j hu hv h e = k.bits u j hu h ∙ ap (λ b. cond b 1 0) e ∙ sym (k.bits v j hv h)

-- where a formula tells two states apart, the first that does is the first difference of their rows
pub first_difference : {m : Machine} {bs : List Birth} {rows leads : List ℕ} {w : ℕ} → Link m bs rows w leads → (u v : ℕ) → u < m.states → v < m.states
    → T (not (alike m bs u v)) → FirstDifference (row_of rows w u) (row_of rows w v) (first m (formulas m bs) u v)
first_difference {m} {bs} {rows} {leads} {w} k u v hu hv d =
    let fs = formulas m bs in
    let n = row_length rows m.states w u k.long hu in
    let r = k.room in
    let b : first m fs u v < 32 * w = omega (arith, first_below m fs u v d, formulas_length m bs) in
    record {
      within = omega arith;
      differs = λ h e. first_differs m fs u v d (same_bits k u v (first m fs u v) hu hv b e);
      before = λ i h. bits_same k u v i hu hv (omega arith) (first_agrees m fs u v i h);
    }

-- the first difference of their rows is the first formula that tells them apart
pub difference_first : {m : Machine} {bs : List Birth} {rows leads : List ℕ} {w : ℕ} → Link m bs rows w leads → (u v q : ℕ) → u < m.states → v < m.states
    → T (not (alike m bs u v)) → FirstDifference (row_of rows w u) (row_of rows w v) q → first m (formulas m bs) u v ≡ q
difference_first {m} {bs} {rows} {leads} {w} k u v q hu hv d p =
    let fs = formulas m bs in
    let n = row_length rows m.states w u k.long hu in
    let r = k.room in
    first_one (row_of rows w u) (row_of rows w v) (first m fs u v) q (first_difference k u v hu hv d) p
    (omega (arith, first_below m fs u v d, formulas_length m bs))

-- what is known of a machine in words, and of a birth for which a formula is added
pub record Adding (n : ℕ) (ws : List ℕ) (g : ℕ) (bs : List Birth) (b : Birth) (rows : List ℕ) (w : ℕ) (leads : List ℕ) : Type 0 where
  pub whole : length ws ≡ 3 * g
  pub target : (j : ℕ) → j < g → target_at ws j < n
  pub reach : b.reach < n
  pub lacks : (j : ℕ) → j < g → source_at ws j ≡ b.lack → label_at ws j ≡ b.label → T (not (alike (machine_of n ws) bs b.reach (target_at ws j)))
  pub link : Link (machine_of n ws) bs rows w leads

-- a wanted formula is a term
wanted_term : (n : ℕ) (ws : List ℕ) (g : ℕ) (bs : List Birth) (b : Birth) (rows : List ℕ) (w : ℕ) (leads : List ℕ) → Adding n ws g bs b rows w leads → (q : ℕ)
    → T (wanted (machine_of n ws) (formulas (machine_of n ws) bs) b.label b.reach b.lack q) → TermAt ws rows w b.label b.reach b.lack g q
wanted_term n ws g bs b rows w leads k q h =
    let m = machine_of n ws in
    let fs = formulas m bs in
    let u = b.reach in
    let (i, l, x, y, z) = step_place ws g b.lack b.label (λ v. not (same m fs u v) && eqb (first m fs u v) q) k.whole h in
    let v = target_at ws i in
    let d = and_0 (not (same m fs u v)) (eqb (first m fs u v) q) z in
    let e = eqb-true (first m fs u v) q (T-is (eqb (first m fs u v) q) (and_1 (not (same m fs u v)) (eqb (first m fs u v) q) z)) in
    record {
      place = i;
      below = l;
      source = x;
      label = y;
      first = subst (FirstDifference (row_of rows w u) (row_of rows w v)) e (first_difference k.link u v k.reach (k.target i l) d);
    }

-- a term is a wanted formula
term_wanted : (n : ℕ) (ws : List ℕ) (g : ℕ) (bs : List Birth) (b : Birth) (rows : List ℕ) (w : ℕ) (leads : List ℕ) → Adding n ws g bs b rows w leads → (q : ℕ)
    → TermAt ws rows w b.label b.reach b.lack g q → T (wanted (machine_of n ws) (formulas (machine_of n ws) bs) b.label b.reach b.lack q)
term_wanted n ws g bs b rows w leads k q t =
    let m = machine_of n ws in
    let fs = formulas m bs in
    let u = b.reach in
    let i = t.place in
    let v = target_at ws i in
    let d = k.lacks i t.below t.source t.label in
    let e = difference_first k.link u v q k.reach (k.target i t.below) d t.first in
    place_step ws g b.lack b.label (λ v. not (same m fs u v) && eqb (first m fs u v) q) i k.whole t.below t.source t.label
    (and_in (not (same m fs u v)) (eqb (first m fs u v) q) d (is_T (eqb (first m fs u v) q) (eq-eqb (first m fs u v) q e)))

-- states that agree on the mask of terms are those that the theory says agree
pub agree_bit : (n : ℕ) (ws : List ℕ) (g : ℕ) (bs : List Birth) (b : Birth) (rows : List ℕ) (w : ℕ) (leads mask : List ℕ) → Adding n ws g bs b rows w leads
    → length mask ≡ w → Terms ws rows w b.label b.reach b.lack g mask → (v x : ℕ) → v < n → Tells x (Agree (row_of rows w b.reach) (row_of rows w v) mask)
    → x ≡ cond (agrees (machine_of n ws) (formulas (machine_of n ws) bs) b.label b.reach b.lack v) 1 0
agree_bit n ws g bs b rows w leads mask k lm ts v x hv h =
    let m = machine_of n ws in
    let fs = formulas m bs in
    let u = b.reach in
    let r = k.link.room in
    let fl = formulas_length m bs in
    tells_bit x (agrees m fs b.label u b.lack v) (elim h [
      | inl (e, p) ↦ inl (
        e,
        mask_agrees m fs b.label u b.lack v (λ j l q.
            same_bits k.link u v j k.reach hv (omega arith) (p j (omega arith) (elim (ts j) [
              | inl (o, t) ↦ o
              | inr (o, t) ↦ absurd (t (wanted_term n ws g bs b rows w leads k j q))
            ]))),
      )
      | inr (e, p) ↦ inr (
        e,
        λ q. p (λ j l o. elim (cases_lt j (length fs)) [
          | inl c ↦ bits_same k.link u v j k.reach hv (omega arith) (agrees_mask m fs b.label u b.lack v q j c (elim (ts j) [
            | inl (i, t) ↦ term_wanted n ws g bs b rows w leads k j t
            | inr (i, t) ↦ absurd (omega arith)
          ]))
          | inr c ↦ bits_same k.link u v j k.reach hv (omega arith) (answer_past m fs j u c ∙ sym (answer_past m fs j v c))
        ]),
      )
    ])

-- states that enter one of those satisfy the new formula
pub holds_bit : (n : ℕ) (ws : List ℕ) (g : ℕ) (bs : List Birth) (b : Birth) (rows : List ℕ) (w : ℕ) (leads mask marks : List ℕ) → Adding n ws g bs b rows w leads
    → length mask ≡ w → Terms ws rows w b.label b.reach b.lack g mask → Agreeing rows w b.reach mask n marks → (s x : ℕ) → Tells x (Enters ws marks b.label g s)
    → x ≡ cond (satisfies (machine_of n ws) (formula (machine_of n ws) (formulas (machine_of n ws) bs) b) s) 1 0
holds_bit n ws g bs b rows w leads mask marks k lm ts am s x h =
    let m = machine_of n ws in
    let fs = formulas m bs in
    let f = agrees m fs b.label b.reach b.lack in
    let sat = satisfies m (formula m fs b) s in
    let is : (v : ℕ) → v < n → get_or marks v 0 ≡ cond (f v) 1 0 = λ v hv. agree_bit n ws g bs b rows w leads mask k lm ts v (get_or marks v 0) hv (am v hv) in
    tells_bit x sat (elim h [
      | inl (e, p) ↦ inl (
        e,
        subst T (sym (satisfies_formula m fs b s))
            (place_step ws g s b.label f p.place k.whole p.below p.source p.label
            (bit_T (f (target_at ws p.place)) (sym (is (target_at ws p.place) (k.target p.place p.below)) ∙ p.marked))),
      )
      | inr (e, p) ↦ inr (
        e,
        λ q.
            let (i, l, y, z, o) = step_place ws g s b.label f k.whole (subst T (satisfies_formula m fs b s) q) in
            p (record { place = i; below = l; source = y; label = z; marked = is (target_at ws i) (k.target i l) ∙ T-bit (f (target_at ws i)) o }),
      )
    ])

-- the new bit of a row
with_new : (b : Bool) (j l old : ℕ) → old ≡ 0 → j ≡ l → bit_with l j (cond b 1 0) old ≡ cond b 1 0
with_new true j l old z e = ap (λ c. cond (c && true) 1 old) (eq-eqb j l e)
with_new false j l old z e = ap (λ c. cond (c && false) 1 old) (eq-eqb j l e) ∙ z

-- its other bits
with_old : (x j l old : ℕ) → (j ≡ l → ⊥) → bit_with l j x old ≡ old
with_old x j l old e = ap (λ c. cond (c && eqb x 1) 1 old) (ne_eqb j l e)

-- a bit of a row after the formula f was added
pub bits_with : (m : Machine) (f : Formula) (fs : List Formula) (j s : ℕ) → bit_with (length fs) j (cond (satisfies m f s) 1 0) (cond (answer m fs j s) 1 0) ≡ cond (answer m (f ∷ fs) j s) 1 0
bits_with m f fs j s = elim (cases_eq j (length fs)) [
  | inl e ↦ with_new (satisfies m f s) j (length fs) (cond (answer m fs j s) 1 0) (ap (λ b. cond b 1 0) (answer_past m fs j s (omega arith))) e
      ∙ ap (λ b. cond b 1 0) (sym (ap (λ i. answer m (f ∷ fs) i s) e ∙ answer_new m f fs s))
  | inr e ↦ with_old (cond (satisfies m f s) 1 0) j (length fs) (cond (answer m fs j s) 1 0) e ∙ ap (λ b. cond b 1 0) (elim (cases_lt j (length fs)) [
    | inl l ↦ sym (answer_old m f fs j s l)
    | inr l ↦ answer_past m fs j s l ∙ sym (answer_past m (f ∷ fs) j s (omega arith))
  ])
]

-- another answer is the negation
other_bit : (a b : Bool) → (◌≡◌ {A = ℕ} (cond a 1 0) (cond b 1 0) → ⊥) → a ≡ not b
other_bit true true h = absurd (h refl)
other_bit true false h = refl
other_bit false true h = refl
other_bit false false h = absurd (h refl)

-- leaders after the formula f was added
pub leaders_with : (m : Machine) (f : Formula) (fs : List Formula) (n : ℕ) (leads holds leads' : List ℕ) → ((s : ℕ) → s < n → get_or leads s 0 ≡ leader (same m fs) s)
    → ((s : ℕ) → s < n → get_or holds s 0 ≡ cond (satisfies m f s) 1 0) → Led leads holds n leads' → (t : ℕ) → t < n → get_or leads' t 0 ≡ leader (same m (f ∷ fs)) t
leaders_with m f fs n leads holds leads' le ho ld t h =
    let old = get_or leads t 0 in
    let q = leader (same m fs) t in
    let el : old ≡ q = le t h in
    let low : q < n = omega (arith, leader_le (same m fs) t) in
    let answers : get_or holds old 0 ≡ cond (satisfies m f q) 1 0 = ap (λ s. get_or holds s 0) el ∙ ho q low in
    elim (cases_eq (get_or holds t 0) (get_or holds old 0)) [
      | inl e ↦ ld.stays t h e ∙ el ∙ sym (leader_stays m f fs t (bit_test (satisfies m f q) (satisfies m f t) (sym answers ∙ sym e ∙ ho t h)))
      | inr e ↦
          let a = ld.moves t h e in
          let x = get_or leads' t 0 in
          let past : t < x → ⊥ = λ l. e (a.least t l refl) in
          let hx : x < n = omega arith in
          let dx : satisfies m f x ≡ not (satisfies m f q) = other_bit (satisfies m f x) (satisfies m f q) (λ o. a.differs (ho x hx ∙ o ∙ sym answers)) in
          let dt : satisfies m f t ≡ not (satisfies m f q) = other_bit (satisfies m f t) (satisfies m f q) (λ o. e (ho t h ∙ o ∙ sym answers)) in
          sym (leader_moves m f fs q x t (sym (le x hx) ∙ a.led ∙ el) refl dx dt
          (λ z l o. bit_test (satisfies m f z) (satisfies m f q) (sym (ho z (omega arith)) ∙ a.least z l (le z (omega arith) ∙ o ∙ sym el) ∙ answers)))
    ]

-- the link after a formula more
pub link_more : (n : ℕ) (ws : List ℕ) (g : ℕ) (bs : List Birth) (b : Birth) (rows : List ℕ) (w : ℕ) (leads mask marks holds rows' leads' : List ℕ) → Adding n ws g bs b rows w leads
    → length bs < 32 * w → length mask ≡ w → length holds ≡ n → length rows' ≡ length rows → length leads' ≡ length leads
    → Terms ws rows w b.label b.reach b.lack g mask → Agreeing rows w b.reach mask n marks → Holding ws marks b.label g holds
    → Extended rows holds w (length bs) n rows' → Led leads holds n leads' → Link (machine_of n ws) (b ∷ bs) rows' w leads'
link_more n ws g bs b rows w leads mask marks holds rows' leads' k room lm lh lr ll ts am hs ex ld =
    let m = machine_of n ws in
    let fs = formulas m bs in
    let f = formula m fs b in
    let ho : (s : ℕ) → s < n → get_or holds s 0 ≡ cond (satisfies m f s) 1 0 = λ s h. holds_bit n ws g bs b rows w leads mask marks k lm ts am s (get_or holds s 0) (hs s (omega arith)) in
    record {
      long = lr ∙ k.link.long;
      led = ll ∙ k.link.led;
      room = omega arith;
      bits = λ s j h l. ex.done s j h ∙ ap (bit_with (length bs) j (get_or holds s 0)) (k.link.bits s j h l) ∙ ap (λ x. bit_with (length bs) j x (cond (answer m fs j s) 1 0)) (ho s h)
          ∙ ap (λ i. bit_with i j (cond (satisfies m f s) 1 0) (cond (answer m fs j s) 1 0)) (sym (formulas_length m bs)) ∙ bits_with m f fs j s;
      leaders = leaders_with m f fs n leads holds leads' k.link.leaders ho ld;
    }

-- rows of states that a formula tells apart differ
pub rows_differ : {m : Machine} {bs : List Birth} {rows leads : List ℕ} {w : ℕ} → Link m bs rows w leads → (u v : ℕ) → u < m.states → v < m.states → T (not (alike m bs u v)) → Differing rows w u v
rows_differ {m} {bs} {rows} {leads} {w} k u v hu hv d =
    let fs = formulas m bs in
    let r = k.room in
    let b : first m fs u v < 32 * w = omega (arith, first_below m fs u v d, formulas_length m bs) in
    (first m fs u v, b, λ e. first_differs m fs u v d (same_bits k u v (first m fs u v) hu hv b e))

-- leaders are states
pub leads_within : {m : Machine} {bs : List Birth} {rows leads : List ℕ} {w : ℕ} → Link m bs rows w leads → (t : ℕ) → t < length leads → get_or leads t 0 < length leads
leads_within {m} {bs} k t h =
    let n = k.led in
    let l = leader_le (alike m bs) t in
    omega (arith, k.leaders t (omega arith))

-- what is known where a formula is added, from the contract
pub adding : (ws fs ns rows leads : List ℕ) (bs : List Birth) (b : Birth) (w : ℕ) → Chained ws fs ns → Bounded (length fs) ws ns → b.reach < length fs
    → ((v : ℕ) → Step (machine_of (length fs) ws) b.lack b.label v → T (not (alike (machine_of (length fs) ws) bs b.reach v))) → Link (machine_of (length fs) ws) bs rows w leads
    → Adding (length fs) ws (length ns) bs b rows w leads
adding ws fs ns rows leads bs b w c bd r l k = record {
  whole = c.whole;
  target = bd.target;
  reach = r;
  lacks = λ j h x y. l (target_at ws j) (place_among ws (length ns) b.lack b.label j c.whole h x y);
  link = k;
}

-- how many births there are
pub births_length : (ws : List ℕ) (k : ℕ) → length (births_of ws k) ≡ k
births_length ws zero = refl
births_length ws (suc k) = ap suc (births_length ws k)

-- the link after the formula was evaluated, rows extended and blocks split
pub link_added : (ws fs ns rows leads births holds rows' leads' : List ℕ) (w k : ℕ) (b : Birth) → Adding (length fs) ws (length ns) (births_of births k) b rows w leads → k < 32 * w
    → length holds ≡ length fs → length rows' ≡ length rows → length leads' ≡ length leads → Evaluated ws rows w b.label b.reach b.lack (length ns) (length fs) holds
    → Extended rows holds w k (length holds) rows' → Led leads holds (length leads) leads' → Link (machine_of (length fs) ws) (b ∷ births_of births k) rows' w leads'
link_added ws fs ns rows leads births holds rows' leads' w k b a h lh lr ll ev ex ld =
    let bs = births_of births k in
    let e : k ≡ length bs = sym (births_length births k) in
    link_more (length fs) ws (length ns) bs b rows w leads ev.mask ev.marks holds rows' leads' a (omega arith) ev.wide lh lr ll ev.terms ev.agreeing ev.holding
    (subst (λ n. Extended rows holds w (length bs) n rows') lh (subst (λ p. Extended rows holds w p (length holds) rows') e ex))
    (subst (λ n. Led leads holds n leads') a.link.led ld)

-- a mask of terms has the bits of the wanted formulas
pub terms_bit : (n : ℕ) (ws : List ℕ) (g : ℕ) (bs : List Birth) (b : Birth) (rows : List ℕ) (w : ℕ) (leads mask : List ℕ) → Adding n ws g bs b rows w leads
    → Terms ws rows w b.label b.reach b.lack g mask → (q : ℕ) → bit_at mask q ≡ cond (wanted (machine_of n ws) (formulas (machine_of n ws) bs) b.label b.reach b.lack q) 1 0
terms_bit n ws g bs b rows w leads mask k ts q = tells_bit (bit_at mask q) (wanted (machine_of n ws) (formulas (machine_of n ws) bs) b.label b.reach b.lack q) (elim (ts q) [
  | inl (e, t) ↦ inl (e, term_wanted n ws g bs b rows w leads k q t)
  | inr (e, t) ↦ inr (e, λ p. t (wanted_term n ws g bs b rows w leads k q p))
])
