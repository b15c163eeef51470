-- The list ends: a round that adds nothing leaves it for good, and then those that answer alike are bisimilar.
use Rattle.std.proofs.Common.{◌≡◌, ℕ, zero, suc, ◌+◌, ◌-◌, ◌<◌, ◌≤◌, Bool, T, List, [], ◌∷◌, length, sym, refl, ap, ◌∙◌, subst, inl, inr, add-zero, add-suc, arith}
use mathlib.Core.Option.{Option, some, none}
use Rattle.lts.specs.Machine.{Machine, Step}
use Rattle.lts.specs.Formula.{Formula}
use Rattle.lts.specs.Line.{given}
use Rattle.lts.specs.Bisimulation.{Bisimilar}
use Rattle.theory.specs.Together.{together, Closed, PartsNothing}
use Rattle.theory.specs.Blocks.{leader}
use Rattle.theory.specs.Births.{Birth, same, alike, formulas, next_birth, settle, sweep, round, rounds, births, Extends, begun, grown}
use Rattle.theory.proofs.Bools.{not_both}
use Rattle.theory.proofs.Leaders.{leader_le, leader_in}
use Rattle.theory.proofs.Rounds.{together_forth, together_back}
use Rattle.theory.proofs.Bisimilarity.{bisimilar_agree}
use Rattle.theory.proofs.Stability.{few_rounds, together_bisimilar}
use Rattle.theory.proofs.Terms.{same_cons}
use Rattle.theory.proofs.Unmatched.{Lacks, Next, next_birth_says}
use Rattle.theory.proofs.Growth.{Settled, alike_equivalence, together_alike, rounds_settled, rounds_extend}
use Rattle.std.proofs.lemmas.Bool.{cases_lt}

-- nothing is lacking between two that match each other
no_lack : (m : Machine) (r : ℕ → ℕ → Bool) (x : ℕ) (b : Birth) → ((a u : ℕ) → Step m x a u → (v : ℕ) × Step m b.lack a v × T (r u v)) → Lacks m r x b → ⊥
no_lack m r x b h g =
    let (v, p, q) = h b.label b.reach g.has in
    not_both (r b.reach v) q (g.lacks v p)

-- nothing parts two that match each other
pub next_birth_none : (m : Machine) (r : ℕ → ℕ → Bool) (k p s : ℕ)
    → ((a u : ℕ) → Step m p a u → (v : ℕ) × Step m s a v × T (r u v)) → ((a u : ℕ) → Step m s a u → (v : ℕ) × Step m p a v × T (r u v)) → next_birth m r k p s ≡ none
next_birth_none m r k p s h g = go (next_birth m r k p s) (next_birth_says m r k p s)
  where
    go : (o : Option Birth) → Next m r k p s o → o ≡ none
    go none w = refl
    go (some b) (l, inl (e, w)) = absurd (no_lack m r p b (λ a u i. let (v, x, y) = h a u i in (v, subst (λ z. Step m z a v) (sym e) x, y)) w)
    go (some b) (l, inr (e, w)) = absurd (no_lack m r s b (λ a u i. let (v, x, y) = g a u i in (v, subst (λ z. Step m z a v) (sym e) x, y)) w)

-- where nothing parts s from its leader, settling adds nothing
pub settle_none : (m : Machine) (r : ℕ → ℕ → Bool) (k s n : ℕ) (bs : List Birth) → next_birth m r k (leader (alike m bs) s) s ≡ none → settle m r k s n bs ≡ bs
unfolding settle
settle_none m r k s zero bs h = refl
settle_none m r k s (suc n) bs h = ap (λ (o : Option Birth). given o bs (λ b. settle m r k s n (b ∷ bs))) h

-- where k rounds have been settled and the next parts nothing, a round of any number adds nothing
pub round_still : (m : Machine) → Closed m → (k : ℕ) (bs : List Birth) → Settled m k m.states bs → PartsNothing m k → (j : ℕ) → round m j bs ≡ bs
unfolding sweep
round_still m closed k bs u still j = sweeps m.states (omega arith)
  where
    p : ℕ → ℕ
    p s = leader (alike m bs) s

    near : (s : ℕ) → s < m.states → T (together m (suc k) (p s) s)
    near s h =
        let l = leader_le (alike m bs) s in
        still (p s) s (omega arith) h (u.settled (p s) s (omega arith) h (leader_in (alike m bs) (alike_equivalence m bs) s))

    one : (s : ℕ) → s < m.states → next_birth m (alike m bs) j (p s) s ≡ none
    one s h = next_birth_none m (alike m bs) j (p s) s
        (λ a x g. let (v, e, q) = together_forth m k (p s) s (near s h) a x g in (v, e, together_alike m k bs u.born x v q))
        (λ a x g. let (v, e, q) = together_back m k (p s) s (near s h) a x g in (v, e, together_alike m k bs u.born x v q))

    sweeps : (n : ℕ) → n ≤ m.states → sweep m (alike m bs) j n bs ≡ bs
    sweeps zero h = refl
    sweeps (suc n) h = ap (settle m (alike m bs) j n n) (sweeps n (omega arith)) ∙ settle_none m (alike m bs) j n n bs (one n h)

-- one round more, opened
pub rounds_next : (m : Machine) (k : ℕ) → rounds m (suc k) ≡ round m (suc k) (rounds m k)
unfolding rounds
rounds_next m k = refl

-- so the list stays as it is for good
pub rounds_still : (m : Machine) → Closed m → (k : ℕ) → PartsNothing m k → (j : ℕ) → rounds m (k + j) ≡ rounds m k
rounds_still m closed k still zero = ap (rounds m) (add-zero k)
rounds_still m closed k still (suc j) = ap (rounds m) (add-suc k j) ∙ rounds_next m (k + j) ∙ ap (round m (suc (k + j))) (rounds_still m closed k still j)
    ∙ round_still m closed k (rounds m k) (rounds_settled m closed k) still (suc (k + j))

-- a list that began as another is no shorter
pub extends_length : {bs old : List Birth} → Extends bs old → length old ≤ length bs
extends_length begun = omega arith
extends_length (grown h) = omega (arith, extends_length h)

-- one that is no longer is the same
pub extends_same : {bs old : List Birth} → Extends bs old → length bs ≤ length old → bs ≡ old
extends_same begun g = refl
extends_same (grown h) g = absurd (omega (arith, extends_length h))

-- a round that makes the list no longer parts nothing
pub no_longer_still : (m : Machine) → Closed m → (k : ℕ) → length (rounds m (suc k)) ≤ length (rounds m k) → PartsNothing m k
no_longer_still m closed k h s t hs ht g =
    let e = extends_same (rounds_extend m closed k) h in
    (rounds_settled m closed (suc k)).settled s t hs ht (subst (λ (bs : List Birth). T (alike m bs s t)) (sym e) (together_alike m k (rounds m k) (rounds_settled m closed k).born s t g))

-- and the list is then that of all rounds
pub still_births : (m : Machine) → Closed m → (k : ℕ) → PartsNothing m k → births m ≡ rounds m k
still_births m closed k still = elim (cases_lt m.states k) [
  | inl h ↦
      let e : m.states + (k - m.states) ≡ k = omega arith in
      sym (rounds_still m closed m.states (few_rounds m closed m.states (omega arith)) (k - m.states)) ∙ ap (rounds m) e
  | inr h ↦
      let e : m.states ≡ k + (m.states - k) = omega arith in
      ap (rounds m) e ∙ rounds_still m closed k still (m.states - k)
]

same_bisimilar : (m : Machine) (fs : List Formula) (s t : ℕ) → Bisimilar m s t → T (same m fs s t)
same_bisimilar m [] s t h = tt
same_bisimilar m (f ∷ fs) s t h = same_cons m f fs s t (bisimilar_agree m s t f h) (same_bisimilar m fs s t h)

-- those that answer alike to all births are bisimilar, and the other way round
pub alike_bisimilar : (m : Machine) → Closed m → (s t : ℕ) → s < m.states → t < m.states → T (alike m (births m) s t) → Bisimilar m s t
alike_bisimilar m closed s t hs ht h = together_bisimilar m closed m.states (few_rounds m closed m.states (omega arith)) s t hs ht ((rounds_settled m closed m.states).settled s t hs ht h)

-- bisimilar states answer alike to all births
pub bisimilar_alike : (m : Machine) (s t : ℕ) → Bisimilar m s t → T (alike m (births m) s t)
bisimilar_alike m s t h = same_bisimilar m (formulas m (births m)) s t h
