-- What the loops need of the machine, of the blocks with which a round began, and of the room.
use Rattle.std.proofs.Common.{◌≡◌, ℕ, zero, suc, ◌-◌, ◌*◌, ◌<◌, ◌≤◌, List, length, get_or, sym, refl, ap, ◌∙◌, subst, arith}
use Rattle.lts.specs.declared.Transition.{Transition}
use Rattle.lts.specs.Machine.{Machine, Step, Among}
use Rattle.lts.specs.Decoding.{transitions_of}
use Rattle.theory.specs.Together.{Closed}
use Rattle.theory.specs.Births.{Birth, alike, next_birth, sweep, rounds}
use Rattle.theory.proofs.Leaders.{leader_test, leader_le}
use Rattle.theory.proofs.Growth.{alike_equivalence, rounds_settled, rounds_extend}
use Rattle.theory.proofs.Bounds.{births_below_states}
use Rattle.theory.proofs.Ending.{rounds_next, extends_same}
use Rattle.theory.proofs.Places.{among_at, place_of}
use Rattle.chains.specs.Matching.{related}
use Rattle.chains.specs.System.{machine_of, transition_at, Bounded}
use Rattle.chains.proofs.Decoded.{no_transition, how_many, at_place}
use Rattle.formulas.specs.Link.{births_of, Link}
use Rattle.refine.specs.Rounds.{Fixed, Begun, Sofar, Turning}
use Rattle.refine.proofs.Congruence.{next_birth_same}
use Rattle.refine.proofs.Turning.{turn_begins}

module _ (n : ℕ) (ws ns : List ℕ) (whole : length ws ≡ 3 * length ns) where
  abbrev m : Machine
  m = machine_of n ws

  -- transition j stands among those of the machine
  pub step_at : (j : ℕ) → j < length ns → Among (transition_at ws j) (transitions_of ws)
  step_at j h =
      let long : j < length (transitions_of ws) = omega (arith, how_many ws (length ns) whole) in
      subst (λ (t : Transition). Among t (transitions_of ws)) (at_place ws j no_transition (omega arith)) (among_at (transitions_of ws) j no_transition long)

  -- each step of the machine is a transition j
  pub place_in : (s a u : ℕ) → Step m s a u → (j : ℕ) × (j < length ns) × (transition_at ws j ≡ record { source = s; label = a; target = u })
  place_in s a u g =
      let p = place_of no_transition g in
      let short : p.0 < length ns = omega (arith, p.1, how_many ws (length ns) whole) in
      (p.0, short, sym (at_place ws p.0 no_transition (omega arith)) ∙ p.2)

  pub closed_of : Bounded n ws ns → Closed m
  closed_of b s a u g =
      let p = place_in s a u g in
      subst (λ v. v < n) (ap (λ (t : Transition). t.target) p.2) (b.target p.0 p.1)

-- blocks by the array are those of the births of k rounds
pub related_is : (m : Machine) (k : ℕ) (old : List ℕ) → Begun m k old → (u v : ℕ) → u < m.states → v < m.states → related old u v ≡ alike m (rounds m k) u v
related_is m k old h u v hu hv =
    let one = h.leaders u hu in
    let two = h.leaders v hv in
    let test = leader_test (alike m (rounds m k)) (alike_equivalence m (rounds m k)) u v in
    cc

pub next_is : (m : Machine) → Closed m → (k : ℕ) (old : List ℕ) → Begun m k old → (j p s : ℕ) → next_birth m (related old) j p s ≡ next_birth m (alike m (rounds m k)) j p s
next_is m closed k old h j p s = next_birth_same m closed (related old) (alike m (rounds m k)) (related_is m k old h) j p s

pub length_births : (ws : List ℕ) (k : ℕ) → length (births_of ws k) ≡ k
length_births ws zero = refl
length_births ws (suc k) = ap suc (length_births ws k)

-- all states are settled: the round is over
pub round_over : (m : Machine) (k w : ℕ) (bw : List ℕ) (count : ℕ) (rows leads : List ℕ) → Sofar m k m.states w bw count rows leads → births_of bw count ≡ rounds m (suc k)
round_over m k w bw count rows leads h = h.born ∙ sym (rounds_next m k)

-- a round begins with the births of those before
pub round_begins : (m : Machine) (k w : ℕ) (bw : List ℕ) (count : ℕ) (rows leads : List ℕ) → births_of bw count ≡ rounds m k → Link m (births_of bw count) rows w leads → Sofar m k 0 w bw count rows leads
unfolding sweep
round_begins m k w bw count rows leads e l = record { born = e; link = l }

-- there are fewer births than states
pub few_births : (m : Machine) → Closed m → (k : ℕ) (bw : List ℕ) (count : ℕ) → births_of bw count ≡ rounds m k → count ≤ m.states - 1
few_births m closed k bw count e =
    let l = births_below_states m k (rounds m k) (rounds_settled m closed k).born in
    omega (arith, ap length e, length_births bw count)

-- a round that added nothing leaves the births as they were
pub nothing_added : (m : Machine) → Closed m → (k : ℕ) (bw cw : List ℕ) (count : ℕ) → births_of bw count ≡ rounds m k → births_of cw count ≡ rounds m (suc k) → rounds m (suc k) ≡ rounds m k
nothing_added m closed k bw cw count e f = extends_same (rounds_extend m closed k) (omega (arith, ap length e, ap length f, length_births bw count, length_births cw count))

-- settling a state begins with what was settled before
pub begin_turn : (ws fs ns : List ℕ) (w k s : ℕ) (bw : List ℕ) (count : ℕ) (rows leads : List ℕ) → Fixed ws fs ns w → s < length fs → Sofar (machine_of (length fs) ws) k s w bw count rows leads
    → Turning (machine_of (length fs) ws) k (rounds (machine_of (length fs) ws) k) s (births_of bw count)
begin_turn ws fs ns w k s bw count rows leads fixed hs h =
    let closed = closed_of (length fs) ws ns fixed.chained.whole fixed.bounded in
    turn_begins (machine_of (length fs) ws) closed k (rounds (machine_of (length fs) ws) k) (rounds_settled (machine_of (length fs) ws) closed k) s hs (births_of bw count) h.born

-- a leader is a state
pub lead_under : (m : Machine) (bs : List Birth) (rows : List ℕ) (w : ℕ) (leads : List ℕ) (s : ℕ) → Link m bs rows w leads → s < m.states → get_or leads s 0 < m.states
lead_under m bs rows w leads s l h = omega (arith, l.leaders s h, leader_le (alike m bs) s)
