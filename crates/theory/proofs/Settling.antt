-- Settling a state, one birth at a time: what a loop that adds births until nothing parts the state from its leader needs at each turn.
use Rattle.std.proofs.Common.{◌≡◌, ℕ, zero, suc, ◌+◌, ◌-◌, ◌<◌, ◌≤◌, Bool, List, ◌∷◌, length, sym, refl, ap, ◌∙◌, subst, arith}
use mathlib.Core.Option.{Option, some, none}
use Rattle.lts.specs.Machine.{Machine}
use Rattle.lts.specs.Line.{given}
use Rattle.theory.specs.Together.{Closed}
use Rattle.theory.specs.Blocks.{leader}
use Rattle.theory.specs.Births.{Birth, Born, alike, next_birth, settle, sweep, Extends, grown}
use Rattle.theory.proofs.Leaders.{leader_le, leader_grows}
use Rattle.theory.proofs.Unmatched.{Next, next_birth_says}
use Rattle.theory.proofs.Growth.{Settled, alike_equivalence, alike_tail, settled_more, next_born}
use Rattle.theory.proofs.Bounds.{births_below_states, births_at_most_transitions}
use Rattle.theory.proofs.Ending.{next_birth_none, settle_none}

-- one state more, opened
pub sweep_next : (m : Machine) (r : ℕ → ℕ → Bool) (k s : ℕ) (bs : List Birth) → sweep m r k (suc s) bs ≡ settle m r k s s (sweep m r k s bs)
unfolding sweep
sweep_next m r k s bs = refl

-- a birth that parts s from its leader is added, and settling goes on with one turn fewer
pub settle_some : (m : Machine) (r : ℕ → ℕ → Bool) (k s n : ℕ) (bs : List Birth) (b : Birth) → next_birth m r k (leader (alike m bs) s) s ≡ some b → settle m r k s (suc n) bs ≡ settle m r k s n (b ∷ bs)
unfolding settle
settle_some m r k s n bs b h = ap (λ (o : Option Birth). given o bs (λ b. settle m r k s n (b ∷ bs))) h

-- what is so after such a birth: it is as births are, what was settled stays so, there is room for it, and the leader has risen
pub record Added (m : Machine) (k : ℕ) (old bs : List Birth) (s : ℕ) (b : Birth) : Type 0 where
  pub born : Born m bs b
  pub extends : Extends (b ∷ bs) old
  pub settled : Settled m (suc k) s (b ∷ bs)
  pub below_states : suc (length bs) ≤ m.states - 1
  pub below_transitions : suc (length bs) ≤ length m.transitions
  pub rises : leader (alike m bs) s < leader (alike m (b ∷ bs)) s

module _ (m : Machine) (closed : Closed m) (k : ℕ) (old : List Birth) (o : Settled m k m.states old) where
  -- what holds after each birth that is added in settling s
  pub added : (bs : List Birth) (s : ℕ) (b : Birth) → Extends bs old → s < m.states → Settled m (suc k) s bs
      → next_birth m (alike m old) (suc k) (leader (alike m bs) s) s ≡ some b → Added m k old bs s b
  added bs s b e hs u h =
      let x : Next m (alike m old) (suc k) (leader (alike m bs) s) s (some b) = subst (λ (z : Option Birth). Next m (alike m old) (suc k) (leader (alike m bs) s) s z) h (next_birth_says m (alike m old) (suc k) (leader (alike m bs) s) s) in
      let (g, w) = next_born m closed k old o bs s b e hs x in
      let v = settled_more m (suc k) s bs b (omega (arith, x.0)) g u in
      record {
        born = g;
        extends = grown e;
        settled = v;
        below_states = births_below_states m (suc k) (b ∷ bs) v.born;
        below_transitions = births_at_most_transitions m (suc k) (b ∷ bs) v.born;
        rises = leader_grows (alike m bs) (alike m (b ∷ bs)) (alike_equivalence m (b ∷ bs)) (alike_tail m bs b) s w;
      }

  -- once there are turns enough, one more makes no difference
  pub settle_enough : (s : ℕ) → s < m.states → (n : ℕ) (bs : List Birth) → s ≤ n + leader (alike m bs) s → Extends bs old → Settled m (suc k) s bs
      → settle m (alike m old) (suc k) s (suc n) bs ≡ settle m (alike m old) (suc k) s n bs
  unfolding settle
  settle_enough s hs zero bs f e u =
      let q : leader (alike m bs) s ≡ s = omega (arith, leader_le (alike m bs) s) in
      let itself = (alike_equivalence m old).itself in
      settle_none m (alike m old) (suc k) s 1 bs (subst (λ p. next_birth m (alike m old) (suc k) p s ≡ none) (sym q) (next_birth_none m (alike m old) (suc k) s s (λ a x g. (x, g, itself x)) (λ a x g. (x, g, itself x))))
  settle_enough s hs (suc n) bs f e u =
      go (next_birth m (alike m old) (suc k) (leader (alike m bs) s) s) refl (λ b. settle_enough s hs n (b ∷ bs))
    where
      r : ℕ → ℕ → Bool
      r = alike m old

      go : (x : Option Birth) → next_birth m (alike m old) (suc k) (leader (alike m bs) s) s ≡ x
          → ((b : Birth) → s ≤ n + leader (alike m (b ∷ bs)) s → Extends (b ∷ bs) old → Settled m (suc k) s (b ∷ bs) → settle m r (suc k) s (suc n) (b ∷ bs) ≡ settle m r (suc k) s n (b ∷ bs))
          → given x bs (λ b. settle m r (suc k) s (suc n) (b ∷ bs)) ≡ given x bs (λ b. settle m r (suc k) s n (b ∷ bs))
      go none h rest = refl
      go (some b) h rest = let w = added bs s b e hs u h in rest b (omega (arith, w.rises)) w.extends w.settled

  -- so a loop that adds what parts s from its leader computes what settling does
  pub settle_step : (bs : List Birth) (s : ℕ) (b : Birth) → Extends bs old → s < m.states → Settled m (suc k) s bs
      → next_birth m (alike m old) (suc k) (leader (alike m bs) s) s ≡ some b
      → settle m (alike m old) (suc k) s s bs ≡ settle m (alike m old) (suc k) s s (b ∷ bs)
  settle_step bs zero b e hs u h = let w = added bs 0 b e hs u h in absurd (omega (arith, w.rises, leader_le (alike m (b ∷ bs)) 0))
  settle_step bs (suc n) b e hs u h =
      let w = added bs (suc n) b e hs u h in
      settle_some m (alike m old) (suc k) (suc n) n bs b h ∙ sym (settle_enough (suc n) hs n (b ∷ bs) (omega (arith, w.rises)) w.extends w.settled)
