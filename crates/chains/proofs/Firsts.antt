-- The pass that links of a state's transitions the first by each label into each block.
use Rattle.std.proofs.Common.{◌≡◌, ℕ, suc, ◌<◌, ◌≤◌, cond, ◌&&◌, eqb, List, length, get_or, set, sym, refl, ap, ◌∙◌, subst, inl, inr, arith}
use Rattle.std.proofs.lemmas.List.{get_or-set_same, get_or-set_other}
use mathlib.Core.HLevel.{⊥_prop}
use mathlib.Core.Logic.{∥∥₁_elim, ∥∥₁_map, ∥∥₁_prop}
use Rattle.std.proofs.lemmas.Bool.{cases_Bool, cases_order, both_ways, eq-eqb, cond-true, cond-false, eqb-true}
use Rattle.chains.specs.System.{source_at, label_at, Chained, Bounded}
use Rattle.chains.specs.Labels.{in_set}
use Rattle.chains.specs.Matching.{block_at, Covered, SkipsTo, Represented, FirstOfKind, LeadsOn, Emptied, Added}
use Rattle.chains.proofs.Walking.{At, before_next, represented_all}
use Rattle.chains.proofs.Skipping.{represented_set}
use Rattle.chains.proofs.Adding.{added_next}

-- the walk along the transitions of s has come to j, and the last that it linked is `last`
pub record Firsts (ws old fs : List ℕ) (g s j last : ℕ) (before sets entry skips : List ℕ) : Type 0 where
  pub at : At ws g s j
  pub latest : At ws g s last
  pub low : last ≤ j
  pub covered : Covered ws old s (suc last) j
  pub added : Added ws old j s before sets
  pub represented : Represented ws old fs skips
  pub done : (i : ℕ) → i < last → source_at ws i ≡ s → LeadsOn ws old g i (get_or skips i 0)
  pub pending : last < j → get_or skips last 0 ≡ j
  pub kept : (i : ℕ) → (source_at ws i ≡ s → ⊥) → get_or skips i 0 ≡ get_or entry i 0

-- at the end of the walk all of s lead on
pub firsts_end : (ws old fs : List ℕ) (g s j last : ℕ) (before sets entry skips : List ℕ) → Firsts ws old fs g s j last before sets entry skips → g ≤ j
    → (i : ℕ) → i < g → source_at ws i ≡ s → LeadsOn ws old g i (get_or skips i 0)
firsts_end ws old fs g s j last before sets entry skips f e i l x k m = elim (cases_order i last) [
  | inl o ↦ absurd (omega (arith, m, ap (λ q. get_or skips q 0) o, f.pending (omega (arith, o, l, e)), e))
  | inr (inl o) ↦ f.done i o x k m
  | inr (inr o) ↦ absurd (∥∥₁_elim (f.covered i (omega (arith, l, e)) x) ⊥_prop (λ p. let (r, n, x', y, z) = p in k r (omega (arith, n, o)) (x' ∙ sym x) y z))
]

module _ (ws old fs ns entry skips : List ℕ) (s j last : ℕ) (before sets sets' : List ℕ) (c : Chained ws fs ns) (d : Bounded (length fs) ws ns) (h : j < length ns) (z : Emptied ws old (length ns) s before)
    (f : Firsts ws old fs (length ns) s j last before sets entry skips) where
  abbrev a : ℕ
  a = label_at ws j

  abbrev b : ℕ
  b = block_at ws old j

  abbrev v : ℕ
  v = get_or ns j 0

  -- those before the next are covered if those before j are, and j is
  covered_more : (i : ℕ) → last ≤ i → (r : ℕ) × (r < suc i) × (source_at ws r ≡ s) × (label_at ws r ≡ a) × (block_at ws old r ≡ b) → Covered ws old s (suc i) v
  covered_more i l (r, k, x, y, w) t m e = elim (before_next ws fs ns s j t c h f.at m e) [
    | inl o ↦ ∣ (r, k, x, y ∙ ap (label_at ws) (sym o), w ∙ ap (block_at ws old) (sym o)) ∣₁
    | inr o ↦ ∥∥₁_map (f.covered t o e) (λ p. let (q, n, x', y', w') = p in (q, omega (arith, n, l), x', y', w'))
  ]

  -- j is listed: one before it is like it
  covered_listed : in_set sets b a ≡ 1 → Covered ws old s (suc last) v
  covered_listed o =
      let (t, k, x, y, w) = f.added.only b a (d.label j h) (z j h (f.at.here h) a (d.label j h)) o in
      λ v i e. ∥∥₁_elim (f.covered t k x) ∥∥₁_prop (λ p. let (r, l, x', y', w') = p in covered_more last (omega arith) (r, l, x', y' ∙ y, w' ∙ w) v i e)

  covered_new : Covered ws old s (suc j) v
  covered_new = covered_more j f.low (j, omega arith, f.at.here h, refl, refl)

  -- j is not listed: none before it is like it
  new_kind : (in_set sets b a ≡ 1 → ⊥) → FirstOfKind ws old j
  new_kind o t l x y w =
      let one = f.added.listed t l (x ∙ f.at.here h) in
      o (subst (λ p. in_set sets p a ≡ 1) w (subst (λ q. in_set sets (block_at ws old t) q ≡ 1) y one))

  -- the last one now leads on to j
  done_new : (in_set sets b a ≡ 1 → ⊥) → (i : ℕ) → i < j → source_at ws i ≡ s → LeadsOn ws old (length ns) i (get_or skips i 0)
  done_new o i l x k m = elim (cases_order i last) [
    | inl e ↦ subst (FirstOfKind ws old) (sym (ap (λ q. get_or skips q 0) e ∙ f.pending (omega (arith, e, l)))) (new_kind o)
    | inr (inl e) ↦ f.done i e x k m
    | inr (inr e) ↦ absurd (∥∥₁_elim (f.covered i l x) ⊥_prop (λ p. let (r, n, x', y, w) = p in k r (omega (arith, n, e)) (x' ∙ sym x) y w))
  ]

  linked : (i : ℕ) → length skips ≡ length ns → i ≤ j → At ws (length ns) s i → Covered ws old s (suc i) v → Represented ws old fs (set skips i v)
  linked i e l w k =
      let low = (c.next j h).low in
      let here = w.here (omega (arith, l, h)) in
      represented_set ws old fs skips i v (omega (arith, e, l, h)) f.represented (subst (λ g. SkipsTo ws old g (suc i) (source_at ws i) v) (sym e) (record {
        low = omega (arith, low, l);
        high = (c.next j h).high;
        here = λ m. (c.next j h).here m ∙ f.at.here h ∙ sym here;
        covered = subst (λ x. Covered ws old x (suc i) v) (sym here) k;
      }))

  goes_on : (i : ℕ) → length skips ≡ length ns → i ≤ j → At ws (length ns) s i → Covered ws old s (suc i) v
      → ((p : ℕ) → p < i → source_at ws p ≡ s → LeadsOn ws old (length ns) p (get_or skips p 0))
      → ((p q : ℕ) → q < 64 → in_set sets' p q ≡ cond (eqb p b && eqb q a) 1 (in_set sets p q)) → Firsts ws old fs (length ns) s v i before sets' entry (set skips i v)
  goes_on i e l w k dn m =
      let (x, y) = added_next ws fs ns old (length fs) s j j v b a before sets sets' (represented_all ws old fs ns c) d (record { was = refl; within = h; on = refl }) refl refl f.at f.added m in
      let low = (c.next j h).low in
      let here = w.here (omega (arith, l, h)) in
      record {
        at = x;
        latest = w;
        low = omega (arith, low, l);
        covered = k;
        added = y;
        represented = linked i e l w k;
        done = λ p o r. subst (LeadsOn ws old (length ns) p) (sym (get_or-set_other skips i p v 0 (omega (arith, o)))) (dn p o r);
        pending = λ _. get_or-set_same skips i v 0 (omega (arith, e, l, h));
        kept = λ p n. get_or-set_other skips i p v 0 (λ q. n (ap (source_at ws) q ∙ here)) ∙ f.kept p n;
      }

  -- the step of the loop
  pub firsts_next : (i : ℕ) → length skips ≡ length ns → i ≡ cond (eqb (in_set sets b a) 1) last j
      → ((p q : ℕ) → q < 64 → in_set sets' p q ≡ cond (eqb p b && eqb q a) 1 (in_set sets p q)) → Firsts ws old fs (length ns) s v i before sets' entry (set skips i v)
  firsts_next i e o m = elim (cases_Bool (eqb (in_set sets b a) 1)) [
    | inl t ↦ subst (λ x. Firsts ws old fs (length ns) s v x before sets' entry (set skips x v)) (sym (o ∙ cond-true (eqb (in_set sets b a) 1) last j t))
        (goes_on last e f.low f.latest (covered_listed (eqb-true (in_set sets b a) 1 t)) f.done m)
    | inr t ↦ subst (λ x. Firsts ws old fs (length ns) s v x before sets' entry (set skips x v)) (sym (o ∙ cond-false (eqb (in_set sets b a) 1) last j t))
        (goes_on j e (omega arith) f.at covered_new (done_new (λ o. both_ways (eqb (in_set sets b a) 1) t (eq-eqb (in_set sets b a) 1 o))) m)
  ]
