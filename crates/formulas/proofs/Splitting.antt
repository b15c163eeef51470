-- One state more has been looked at in a split.
use Rattle.std.proofs.Common.{◌≡◌, ℕ, ◌+◌, ◌<◌, eqb, ◌⊎◌, List, length, get_or, set, sym, refl, ap, ◌∙◌, subst, inl, inr, arith}
use Rattle.std.proofs.lemmas.Bool.{cases_eq, eq-eqb, ne_eqb, cond-true, cond-false}
use Rattle.formulas.proofs.Slices.{set_here, set_else, below_or}
use Rattle.formulas.specs.Splits.{Apart, Led, Parted, Moved, part_with}

-- the first of a part, once t has broken off
part_is : (old holds parts : List ℕ) (t : ℕ) → t < length old → get_or old t 0 < length old → Parted old holds t parts → (get_or holds t 0 ≡ get_or holds (get_or old t 0) 0 → ⊥)
    → Apart old holds (get_or old t 0) (part_with parts (length old) (get_or old t 0) t) × (part_with parts (length old) (get_or old t 0) t ≡ length old → ⊥)
part_is old holds parts t h g p d =
    let q : ℕ = get_or old t 0 in
    let n : ℕ = length old in
    let P : ℕ → Type 0 = λ r. Apart old holds q r × (r ≡ n → ⊥) in
    elim (cases_eq (get_or parts q 0) n) [
      | inl e ↦ subst P (sym (cond-true (eqb (get_or parts q 0) n) t (get_or parts q 0) (eq-eqb (get_or parts q 0) n e)))
          (record { led = refl; differs = d; least = p.none q g e }, λ f. omega arith)
      | inr e ↦ subst P (sym (cond-false (eqb (get_or parts q 0) n) t (get_or parts q 0) (ne_eqb (get_or parts q 0) n e)))
          (p.some q g e, e)
    ]

-- t stays
led_stays : (old holds new parts : List ℕ) (t : ℕ) → Led old holds t new → Parted old holds t parts → get_or holds t 0 ≡ get_or holds (get_or old t 0) 0
    → Led old holds (t + 1) new × Parted old holds (t + 1) parts
led_stays old holds new parts t l p s = (
  record {
    stays = λ z h e. elim (below_or z t h) [ inl g ↦ l.stays z g e | inr g ↦ l.later z (omega arith) ];
    moves = λ z h d. elim (below_or z t h) [ inl g ↦ l.moves z g d | inr g ↦ absurd (d (subst (λ y. get_or holds y 0 ≡ get_or holds (get_or old y 0) 0) (sym g) s)) ];
    later = λ z h. l.later z (omega arith);
  },
  record {
    none = λ q h e z g f. elim (below_or z t g) [
      | inl k ↦ p.none q h e z k f
      | inr k ↦ subst (λ y. get_or holds z 0 ≡ get_or holds y 0) f (subst (λ y. get_or holds y 0 ≡ get_or holds (get_or old y 0) 0) (sym k) s)
    ];
    some = p.some;
  },
)

-- t moves to the part that r is first of
led_moves : (old holds new parts : List ℕ) (t r : ℕ) → t < length new → get_or old t 0 < length parts → Led old holds t new → Parted old holds t parts
    → (get_or holds t 0 ≡ get_or holds (get_or old t 0) 0 → ⊥) → Apart old holds (get_or old t 0) r → (r ≡ length old → ⊥)
    → Led old holds (t + 1) (set new t r) × Parted old holds (t + 1) (set parts (get_or old t 0) r)
led_moves old holds new parts t r h g l p d a u = (
  record {
    stays = λ z k e. elim (below_or z t k) [
      | inl f ↦ set_else new t z r (λ i. omega arith) ∙ l.stays z f e
      | inr f ↦ absurd (d (subst (λ y. get_or holds y 0 ≡ get_or holds (get_or old y 0) 0) f e))
    ];
    moves = λ z k e. elim (below_or z t k) [
      | inl f ↦ subst (λ x. Apart old holds (get_or old z 0) x) (sym (set_else new t z r (λ i. omega arith))) (l.moves z f e)
      | inr f ↦ subst (λ x. Apart old holds (get_or old z 0) x) (sym (set_here new t z r h f)) (subst (λ y. Apart old holds (get_or old y 0) r) (sym f) a)
    ];
    later = λ z k. set_else new t z r (λ i. omega arith) ∙ l.later z (omega arith);
  },
  record {
    none = λ q k e z f i. elim (cases_eq q (get_or old t 0)) [
      | inl j ↦ absurd (u (sym (set_here parts (get_or old t 0) q r g j) ∙ e))
      | inr j ↦ elim (below_or z t f) [
        | inl o ↦ p.none q k (sym (set_else parts (get_or old t 0) q r j) ∙ e) z o i
        | inr o ↦ absurd (j (sym i ∙ ap (λ y. get_or old y 0) o))
      ]
    ];
    some = λ q k e. elim (cases_eq q (get_or old t 0)) [
      | inl j ↦ subst (λ x. Apart old holds q x) (sym (set_here parts (get_or old t 0) q r g j)) (subst (λ y. Apart old holds y r) (sym j) a)
      | inr j ↦ subst (λ x. Apart old holds q x) (sym (set_else parts (get_or old t 0) q r j)) (p.some q k (λ o. e (set_else parts (get_or old t 0) q r j ∙ o)))
    ];
  },
)

-- what was seen of t, with its leader as it was before the split
seen : (old holds new parts new' parts' : List ℕ) (t q n : ℕ) → get_or new t 0 ≡ q → length new ≡ n → Moved new holds parts t new' parts'
    → ((get_or holds t 0 ≡ get_or holds q 0) × (new' ≡ new) × (parts' ≡ parts))
    ⊎ ((get_or holds t 0 ≡ get_or holds q 0 → ⊥) × (new' ≡ set new t (part_with parts n q t)) × (parts' ≡ set parts q (part_with parts n q t)))
seen old holds new parts new' parts' t q n e f m =
    let P : ℕ → ℕ → Type 0 = λ q n. ((get_or holds t 0 ≡ get_or holds q 0) × (new' ≡ new) × (parts' ≡ parts))
    ⊎ ((get_or holds t 0 ≡ get_or holds q 0 → ⊥) × (new' ≡ set new t (part_with parts n q t)) × (parts' ≡ set parts q (part_with parts n q t))) in
    subst (λ x. P q x) f (subst (λ x. P x (length new)) e (elim (cases_eq (get_or holds t 0) (get_or holds (get_or new t 0) 0)) [
      | inl s ↦ inl (s, m.same_leads s, m.same_parts s)
      | inr d ↦ inr (d, m.other_leads d, m.other_parts d)
    ]))

-- the step of the loop
pub led_more : (old holds new parts new' parts' : List ℕ) (t : ℕ) → t < length old → length new ≡ length old → length parts ≡ length old → get_or old t 0 < length old
    → Led old holds t new → Parted old holds t parts → Moved new holds parts t new' parts' → Led old holds (t + 1) new' × Parted old holds (t + 1) parts'
led_more old holds new parts new' parts' t h ln lp g l p m =
    let P : List ℕ → List ℕ → Type 0 = λ x y. Led old holds (t + 1) x × Parted old holds (t + 1) y in
    elim (seen old holds new parts new' parts' t (get_or old t 0) (length old) (l.later t (omega arith)) ln m) [
      | inl (s, e, f) ↦ subst (λ y. P new' y) (sym f) (subst (λ x. P x parts) (sym e) (led_stays old holds new parts t l p s))
      | inr (d, e, f) ↦
          let (a, u) = part_is old holds parts t h g p d in
          let r : ℕ = part_with parts (length old) (get_or old t 0) t in
          subst (λ y. P new' y) (sym f) (subst (λ x. P x (set parts (get_or old t 0) r)) (sym e) (led_moves old holds new parts t r (omega arith) (omega arith) l p d a u))
    ]
