-- One turn of settling a state: what its calls require, and what they give.
use Rattle.std.proofs.Common.{◌≡◌, ℕ, suc, ◌+◌, ◌*◌, ◌<◌, not, T, List, ◌∷◌, length, get_or, sym, ap, ◌∙◌, subst, add-one, arith}
use mathlib.Core.Option.{Option, some, none}
use Rattle.lts.specs.Machine.{Machine, Step}
use Rattle.theory.specs.Together.{Closed}
use Rattle.theory.specs.Blocks.{leader}
use Rattle.theory.specs.Births.{Birth, alike, next_birth, rounds}
use Rattle.theory.proofs.Growth.{Settled, rounds_settled}
use Rattle.theory.proofs.Leaders.{leader_le}
use Rattle.theory.proofs.Settling.{Added}
use Rattle.chains.specs.Matching.{related}
use Rattle.chains.specs.System.{machine_of}
use Rattle.chains.proofs.Decoded.{how_many}
use Rattle.formulas.specs.Link.{births_of, Link}
use Rattle.refine.specs.Rounds.{Fixed, Begun, Sofar, Turning, TurnedOn}
use Rattle.refine.proofs.Facts.{closed_of, next_is, length_births}
use Rattle.refine.proofs.Turning.{turn_adds, turn_goes_on, turn_ends}

module _ (ws fs ns : List ℕ) (w k : ℕ) (old : List ℕ) (s : ℕ) (bw : List ℕ) (count : ℕ) (rows leads : List ℕ)
    (fixed : Fixed ws fs ns w) (begun : Begun (machine_of (length fs) ws) k old) (hs : s < length fs)
    (link : Link (machine_of (length fs) ws) (births_of bw count) rows w leads) (turning : Turning (machine_of (length fs) ws) k (rounds (machine_of (length fs) ws) k) s (births_of bw count)) where
  abbrev m : Machine
  m = machine_of (length fs) ws

  abbrev bs : List Birth
  bs = births_of bw count

  closed : Closed m
  closed = closed_of (length fs) ws ns fixed.chained.whole fixed.bounded

  before : Settled m k m.states (rounds m k)
  before = rounds_settled m closed k

  pub lead_below : get_or leads s 0 < length fs
  lead_below = omega (arith, link.leaders s hs, leader_le (alike m bs) s)

  -- what was found is what the theory finds
  found : (r : Option Birth) → r ≡ next_birth m (related old) (k + 1) (get_or leads s 0) s → next_birth m (alike m (rounds m k)) (suc k) (leader (alike m bs) s) s ≡ r
  found r e =
      ap (λ p. next_birth m (alike m (rounds m k)) (suc k) p s) (sym (link.leaders s hs)) ∙ sym (next_is m closed k old begun (suc k) (get_or leads s 0) s)
      ∙ ap (λ j. next_birth m (related old) j (get_or leads s 0) s) (sym (add-one k)) ∙ sym e

  pub ends : none ≡ next_birth m (related old) (k + 1) (get_or leads s 0) s → Sofar m k (suc s) w bw count rows leads
  ends e = record { born = turn_ends m closed k (rounds m k) before s hs bs turning (found none e); link = link }

  module _ (b : Birth) (e : some b ≡ next_birth m (related old) (k + 1) (get_or leads s 0) s) where
    adds : Added m k (rounds m k) bs s b
    adds = turn_adds m closed k (rounds m k) before s hs bs b turning (found (some b) e)

    pub reach_below : b.reach < length fs
    reach_below = let g = adds.born in closed g.holder b.label b.reach g.has

    pub lack_below : b.lack < length fs
    lack_below = adds.born.lack_is_state

    pub lacks : (v : ℕ) → Step m b.lack b.label v → T (not (alike m bs b.reach v))
    lacks = adds.born.lacks

    pub room : count < 32 * w
    room =
        let one = adds.below_states in
        let two = adds.below_transitions in
        omega (arith, length_births bw count, how_many ws (length ns) fixed.chained.whole, fixed.wide)

    pub goes_on : (cw rows' leads' : List ℕ) → births_of cw (count + 1) ≡ b ∷ bs → Link m (b ∷ bs) rows' w leads' → TurnedOn m k s w count leads cw rows' leads'
    goes_on cw rows' leads' f l = record {
      turning = subst (Turning m k (rounds m k) s) (sym f) (turn_goes_on m closed k (rounds m k) before s hs bs b turning (found (some b) e));
      link = subst (λ (cs : List Birth). Link m cs rows' w leads') (sym f) l;
      rises = omega (arith, link.leaders s hs, l.leaders s hs, adds.rises);
    }
