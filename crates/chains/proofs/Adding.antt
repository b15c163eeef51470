-- The pass that adds labels.
use Rattle.std.proofs.Common.{subst, ◌≡◌, ℕ, ◌<◌, Bool, true, false, cond, ◌&&◌, eqb, List, length, get_or, sym, refl, ◌∙◌, inl, inr, arith}
use Rattle.std.specs.Coded.{Coded-set, coded_ℕ}
use Rattle.std.proofs.lemmas.Bool.{cases_Bool, eq-eqb, cond-true, cond-false, eqb-true, and_parts, and_from}
use Rattle.chains.specs.System.{label_at, Chained, Bounded}
use Rattle.chains.specs.Labels.{in_set}
use Rattle.chains.specs.Matching.{block_at, Represented, Added}
use Rattle.chains.proofs.Walking.{At, Stepped, at_skip}
use Rattle.chains.proofs.Skipping.{all_before}

cond_1 : (b : Bool) (n : ℕ) → n ≡ 1 → cond b 1 n ≡ 1
cond_1 true n e = refl
cond_1 false n e = e

-- one more label is added
pub added_next : (ws fs ns old : List ℕ) (n y at j v b a : ℕ) (before sets sets' : List ℕ) → Represented ws old fs ns → Bounded n ws ns → Stepped ns at j v → b ≡ block_at ws old j → a ≡ label_at ws j
    → At ws (length ns) y at → Added ws old at y before sets → ((p q : ℕ) → q < 64 → in_set sets' p q ≡ cond (eqb p b && eqb q a) 1 (in_set sets p q)) → At ws (length ns) y v × Added ws old v y before sets'
added_next ws fs ns old n y at j v b a before sets sets' c d st eb ea w' k' e = subst (λ i. At ws (length ns) y i × Added ws old i y before sets') st.on (
  at_skip ws old fs ns c y j h w,
  record {
    listed = all_before ws old fs ns (λ q p. in_set sets' p q ≡ 1) (λ q p. Coded-set coded_ℕ (in_set sets' p q) 1) y j c h w
        (λ t r f. e (block_at ws old t) (label_at ws t) (d.label t (omega (arith, r)))
        ∙ cond_1 (eqb (block_at ws old t) b && eqb (label_at ws t) a) (in_set sets (block_at ws old t) (label_at ws t)) (k.listed t r f))
        (e (block_at ws old j) (label_at ws j) (d.label j h)
        ∙ cond-true (eqb (block_at ws old j) b && eqb (label_at ws j) a) 1 (in_set sets (block_at ws old j) (label_at ws j))
        (and_from (eqb (block_at ws old j) b) (eqb (label_at ws j) a) (eq-eqb (block_at ws old j) b (sym eb)) (eq-eqb (label_at ws j) a (sym ea))));
    only = λ p q l z o. elim (cases_Bool (eqb p b && eqb q a)) [
      | inl r ↦ let (u, x) = and_parts (eqb p b) (eqb q a) r in (j, low, w.here h, sym (eqb-true q a x ∙ ea), sym (eqb-true p b u ∙ eb))
      | inr r ↦
          let (t, i, s, u, x) = k.only p q l z (sym (cond-false (eqb p b && eqb q a) 1 (in_set sets p q) r) ∙ sym (e p q l) ∙ o) in
          (t, omega (arith, i, low), s, u, x)
    ];
  },
)
  where
    h : j < length ns
    h = st.within

    w : At ws (length ns) y j
    w = subst (λ i. At ws (length ns) y i) st.was w'

    k : Added ws old j y before sets
    k = subst (λ i. Added ws old i y before sets) st.was k'

    low : j < get_or ns j 0
    low = omega (arith, (c.next j h).low)

-- chains that leave out some have as many links
pub bounded_by : (n : ℕ) (ws ns ms : List ℕ) {old fs gs : List ℕ} → Chained ws gs ns → Represented ws old fs ms → Bounded n ws ns → Bounded n ws ms
bounded_by n ws ns ms c r b =
    let e = c.whole in
    let f = r.whole in
    record { source = λ j h. b.source j (omega arith); label = λ j h. b.label j (omega arith); target = λ j h. b.target j (omega arith) }
