-- Settling a state in a round, and rounds until one adds nothing, as the loops see them.
use Rattle.std.proofs.Common.{◌≡◌, ℕ, suc, ◌<◌, List, ◌∷◌, length, sym, ◌∙◌, subst, arith}
use mathlib.Core.Option.{some, none}
use Rattle.lts.specs.Machine.{Machine}
use Rattle.theory.specs.Together.{Closed}
use Rattle.theory.specs.Blocks.{leader}
use Rattle.theory.specs.Births.{Birth, alike, next_birth, sweep, rounds, births}
use Rattle.refine.specs.Rounds.{Turning}
use Rattle.theory.proofs.Growth.{Settled, sweep_settles}
use Rattle.theory.proofs.Ending.{settle_none, no_longer_still, still_births}
use Rattle.theory.proofs.Settling.{Added, added, settle_step, sweep_next}

module _ (m : Machine) (closed : Closed m) (k : ℕ) (old : List Birth) (o : Settled m k m.states old) (s : ℕ) (hs : s < m.states) where
  pub turn_begins : (bs : List Birth) → bs ≡ sweep m (alike m old) (suc k) s old → Turning m k old s bs
  turn_begins bs e =
      let before = sweep_settles m closed k old o s (omega arith) in
      subst (Turning m k old s) (sym e) (record { extends = before.0; settled = before.1; same = sym (sweep_next m (alike m old) (suc k) s old) })

  pub turn_adds : (bs : List Birth) (b : Birth) → Turning m k old s bs → next_birth m (alike m old) (suc k) (leader (alike m bs) s) s ≡ some b → Added m k old bs s b
  turn_adds bs b t h = added m closed k old o bs s b t.extends hs t.settled h

  pub turn_goes_on : (bs : List Birth) (b : Birth) → Turning m k old s bs → next_birth m (alike m old) (suc k) (leader (alike m bs) s) s ≡ some b → Turning m k old s (b ∷ bs)
  turn_goes_on bs b t h =
      let w = turn_adds bs b t h in
      record { extends = w.extends; settled = w.settled; same = sym (settle_step m closed k old o bs s b t.extends hs t.settled h) ∙ t.same }

  pub turn_ends : (bs : List Birth) → Turning m k old s bs → next_birth m (alike m old) (suc k) (leader (alike m bs) s) s ≡ none → bs ≡ sweep m (alike m old) (suc k) (suc s) old
  turn_ends bs t h = sym (settle_none m (alike m old) (suc k) s s bs h) ∙ t.same

-- a round that added nothing was not needed: what it began with are all births
pub last_round : (m : Machine) → Closed m → (k : ℕ) → length (rounds m (suc k)) ≡ length (rounds m k) → births m ≡ rounds m k
last_round m closed k e = still_births m closed k (no_longer_still m closed k (omega arith))
