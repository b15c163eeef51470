-- Walking along the chain of a state.
use Rattle.std.proofs.Common.{◌≡◌, ℕ, suc, ◌<◌, ◌≤◌, ◌⊎◌, List, length, get_or, sym, refl, ap, ◌∙◌, subst, inl, inr, arith}
use Rattle.std.proofs.lemmas.Bool.{cases_order, cases_lt}
use mathlib.Core.HLevel.{⊥_prop}
use mathlib.Core.Logic.{∥∥₁_elim}
use Rattle.chains.specs.System.{source_at, NextFrom, Chained}
use Rattle.chains.specs.Matching.{Covered, SkipsTo, Represented}

-- of the g transitions j is one of s, or it is g
pub record At (ws : List ℕ) (g s j : ℕ) : Type 0 where
  pub high : j ≤ g
  pub here : j < g → source_at ws j ≡ s

-- on to the next
pub at_next : (ws fs ns : List ℕ) (s j : ℕ) → Chained ws fs ns → j < length ns → At ws (length ns) s j → At ws (length ns) s (get_or ns j 0)
at_next ws fs ns s j c h w =
    let n : NextFrom ws (length ns) (suc j) (source_at ws j) (get_or ns j 0) = c.next j h in
    record { high = n.high; here = λ l. n.here l ∙ w.here h }

-- those of s before the next are those before j, and j
pub before_next : (ws fs ns : List ℕ) (s j t : ℕ) → Chained ws fs ns → j < length ns → At ws (length ns) s j → t < get_or ns j 0 → source_at ws t ≡ s → (t ≡ j) ⊎ (t < j)
before_next ws fs ns s j t c h w l e = elim (cases_order t j) [
  | inl r ↦ inl r
  | inr (inl r) ↦ inr r
  | inr (inr r) ↦ absurd ((c.next j h).none t (omega (arith, r)) l (e ∙ sym (w.here h)))
]

skips_none : (ws old : List ℕ) (g i s v : ℕ) → NextFrom ws g i s v → SkipsTo ws old g i s v
skips_none ws old g i s v n = record {
  low = n.low;
  high = n.high;
  here = n.here;
  covered = λ t l e. elim (cases_lt t i) [ inl h ↦ ∣ (t, h, e, refl, refl) ∣₁ | inr h ↦ absurd (n.none t (omega (arith, h)) l e) ];
}

-- chains that leave out nothing
pub represented_all : (ws old fs ns : List ℕ) → Chained ws fs ns → Represented ws old fs ns
represented_all ws old fs ns c = record {
  whole = c.whole;
  first = λ s h. skips_none ws old (length ns) 0 s (get_or fs s 0) (c.first s h);
  next = λ j h. skips_none ws old (length ns) (suc j) (source_at ws j) (get_or ns j 0) (c.next j h);
}

module _ (ws old fs ns : List ℕ) (c : Represented ws old fs ns) (s : ℕ) where
  -- the first transition of s
  pub at_first : (at : ℕ) → s < length fs → at ≡ get_or fs s 0 → At ws (length ns) s at
  at_first at h e = subst (At ws (length ns) s) (sym e) (record { high = (c.first s h).high; here = (c.first s h).here })

  -- before it there is none
  pub none_before : (at : ℕ) → s < length fs → at ≡ get_or fs s 0 → (t : ℕ) → t < at → source_at ws t ≡ s → ⊥
  none_before at h e t l f = ∥∥₁_elim ((c.first s h).covered t (omega (arith, l, e)) f) ⊥_prop (λ p. let (r, k, _, _, _) = p in omega (arith, k))

  module _ (j : ℕ) (h : j < length ns) (w : At ws (length ns) s j) where
    pub at_skip : At ws (length ns) s (get_or ns j 0)
    at_skip = record { high = (c.next j h).high; here = λ l. (c.next j h).here l ∙ w.here h }

    -- those of s before the next are like one of those before j, and j
    pub covered_skip : Covered ws old s (suc j) (get_or ns j 0)
    covered_skip = subst (λ x. Covered ws old x (suc j) (get_or ns j 0)) (w.here h) (c.next j h).covered

-- a walk along the links ns was at j, and is at v now
pub record Stepped (ns : List ℕ) (at j v : ℕ) : Type 0 where
  pub was : at ≡ j
  pub within : j < length ns
  pub on : get_or ns j 0 ≡ v

pub stepped : (ns links : List ℕ) (at j v : ℕ) → links ≡ ns → j ≡ at → at < length links → v ≡ get_or links at 0 → Stepped ns at j v
stepped ns links at j v e f h g = record { was = sym f; within = omega (arith, ap length e, f, h); on = ap (λ i. get_or ns i 0) f ∙ sym (ap (λ l. get_or l at 0) e) ∙ sym g }
