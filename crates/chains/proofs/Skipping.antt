-- What is so of representatives is so of all that are like them.
use Rattle.std.proofs.Common.{◌≡◌, ℕ, suc, ◌*◌, ◌<◌, Bool, true, false, cond, eqb, ◌⊎◌, List, length, get_or, set, sym, ap, ◌∙◌, subst, inl, inr, arith, length-set}
use Rattle.std.proofs.lemmas.List.{get_or-set_same, get_or-set_other}
use Rattle.std.proofs.lemmas.Bool.{cases_eq, cases_Bool, both_ways, eq-eqb, eqb-true, cond-true, cond-false}
use Rattle.std.specs.Coded.{Coded-set, coded_ℕ}
use mathlib.Core.HLevel.{Π_prop}
use mathlib.Core.Logic.{∥∥₁_elim}
use Rattle.chains.specs.System.{source_at, label_at}
use Rattle.chains.specs.Labels.{in_set}
use Rattle.chains.specs.Matching.{block_at, SkipsTo, Represented, Emptied, Listed, AllListed}
use Rattle.chains.proofs.Walking.{At, Stepped, at_skip, covered_skip}

cond_0 : (b : _) (n : ℕ) → n ≡ 0 → cond b 0 n ≡ 0
cond_0 b n e = elim (cases_Bool b) [ inl t ↦ cond-true b 0 n t | inr f ↦ cond-false b 0 n f ∙ e ]

below_suc : (r j : ℕ) → r < suc j → (r ≡ j) ⊎ (r < j)
below_suc r j h = elim (cases_eq r j) [ inl e ↦ inl e | inr n ↦ inr (omega (arith, n)) ]

-- a property of label and block that the transitions of s before j have, and j, have all those before the next
pub all_before : (ws old fs ns : List ℕ) (P : ℕ → ℕ → Type 0) (one : (a b : ℕ) → IsProp (P a b)) (s j : ℕ) → Represented ws old fs ns → j < length ns → At ws (length ns) s j
    → ((t : ℕ) → t < j → source_at ws t ≡ s → P (label_at ws t) (block_at ws old t)) → P (label_at ws j) (block_at ws old j)
    → (t : ℕ) → t < get_or ns j 0 → source_at ws t ≡ s → P (label_at ws t) (block_at ws old t)
all_before ws old fs ns P one s j c h w before here t l e = ∥∥₁_elim (covered_skip ws old fs ns c s j h w t l e) (one (label_at ws t) (block_at ws old t)) (λ o.
    let (r, k, x, y, z) = o in
    subst (λ b. P (label_at ws t) b) z (subst (λ a. P a (block_at ws old r)) y (elim (below_suc r j k) [
      | inl i ↦ subst (λ q. P (label_at ws q) (block_at ws old q)) (sym i) here
      | inr i ↦ before r i x
    ])))

-- one more set is emptied
pub emptied_next : (ws old fs ns : List ℕ) (x at j v k : ℕ) (sets sets' : List ℕ) → Represented ws old fs ns → Stepped ns at j v → k ≡ block_at ws old j → At ws (length ns) x at → Emptied ws old at x sets
    → ((b a : ℕ) → a < 64 → in_set sets' b a ≡ cond (eqb b k) 0 (in_set sets b a)) → At ws (length ns) x v × Emptied ws old v x sets'
emptied_next ws old fs ns x at j v k sets sets' c s q w m e =
    let here = subst (λ i. At ws (length ns) x i) s.was w in
    let all = all_before ws old fs ns (λ _ b. (a : ℕ) → a < 64 → in_set sets' b a ≡ 0) (λ _ b. Π_prop (λ a. Π_prop (λ _. Coded-set coded_ℕ (in_set sets' b a) 0))) x j c s.within here
    (λ t l f a h. e (block_at ws old t) a h ∙ cond_0 (eqb (block_at ws old t) k) (in_set sets (block_at ws old t) a) (m t (omega (arith, s.was, l)) f a h))
    (λ a h. e (block_at ws old j) a h ∙ cond-true (eqb (block_at ws old j) k) 0 (in_set sets (block_at ws old j) a) (eq-eqb (block_at ws old j) k (sym q))) in
    subst (λ i. At ws (length ns) x i × Emptied ws old i x sets') s.on (at_skip ws old fs ns c x j s.within here, all)

-- one more is listed
pub listed_next : (ws old fs ns : List ℕ) (x at j v : ℕ) (sets : List ℕ) → Represented ws old fs ns → Stepped ns at j v → At ws (length ns) x at → AllListed ws old at x sets → Listed ws old sets j
    → At ws (length ns) x v × AllListed ws old v x sets
listed_next ws old fs ns x at j v sets c s w k l =
    let here = subst (λ i. At ws (length ns) x i) s.was w in
    subst (λ i. At ws (length ns) x i × AllListed ws old i x sets) s.on (
      at_skip ws old fs ns c x j s.within here,
      all_before ws old fs ns (λ a b. in_set sets b a ≡ 1) (λ a b. Coded-set coded_ℕ (in_set sets b a) 1) x j c s.within here (λ t h f. k t (omega (arith, s.was, h)) f) l,
    )

-- a link is written
pub represented_set : (ws old fs skips : List ℕ) (i v : ℕ) → i < length skips → Represented ws old fs skips → SkipsTo ws old (length skips) (suc i) (source_at ws i) v → Represented ws old fs (set skips i v)
represented_set ws old fs skips i v h c n = record {
  whole = c.whole ∙ ap (λ g. 3 * g) (sym e);
  first = λ s l. subst (λ g. SkipsTo ws old g 0 s (get_or fs s 0)) (sym e) (c.first s l);
  next = λ j l. subst (λ g. SkipsTo ws old g (suc j) (source_at ws j) (get_or (set skips i v) j 0)) (sym e) (elim (cases_eq j i) [
    | inl w ↦ subst (λ x. SkipsTo ws old (length skips) (suc j) (source_at ws j) x) (sym (ap (λ z. get_or (set skips i v) z 0) w ∙ get_or-set_same skips i v 0 h))
        (subst (λ z. SkipsTo ws old (length skips) (suc z) (source_at ws z) v) (sym w) n)
    | inr w ↦ subst (λ x. SkipsTo ws old (length skips) (suc j) (source_at ws j) x) (sym (get_or-set_other skips i j v 0 w)) (c.next j (omega (arith, l, e)))
  ]);
}
  where
    e : length (set skips i v) ≡ length skips
    e = length-set skips i v

-- a test of a set tells whether a transition is listed
pub listed_test : (ws old sets : List ℕ) (j b a : ℕ) (t : Bool) → b ≡ block_at ws old j → a ≡ label_at ws j → t ≡ eqb (in_set sets b a) 1 → (t ≡ true → Listed ws old sets j) × (t ≡ false → Listed ws old sets j → ⊥)
listed_test ws old sets j b a t e f g = (
  λ h. subst (λ x. in_set sets x (label_at ws j) ≡ 1) e (subst (λ x. in_set sets b x ≡ 1) f (eqb-true (in_set sets b a) 1 (sym g ∙ h))),
  λ h l. both_ways t h (g ∙ eq-eqb (in_set sets b a) 1 (subst (λ x. in_set sets x a ≡ 1) (sym e) (subst (λ x. in_set sets (block_at ws old j) x ≡ 1) (sym f) l))),
)
