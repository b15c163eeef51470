-- How many births there can be: fewer than states, and no more than transitions.
use Rattle.std.proofs.Common.{◌≡◌, ℕ, suc, ◌-◌, ◌≤◌, Bool, true, false, not, ◌&&◌, ◌||◌, T, eqb, List, [], ◌∷◌, length, sym, refl, ◌∙◌, inl, inr, arith, eqb→eq}
use Rattle.lts.specs.declared.Transition.{Transition}
use Rattle.lts.specs.Machine.{Machine}
use Rattle.lts.specs.Formula.{satisfies, any_step}
use Rattle.theory.specs.Blocks.{leader, count, blocks}
use Rattle.theory.specs.Births.{Birth, AllBorn, body, formula, formulas, alike}
use Rattle.theory.proofs.Bools.{T-or_not, and_in, and_0, and_1, or_0, or_1, not_is}
use Rattle.theory.proofs.Counting.{count_more, count_or, count_one, count_none}
use Rattle.theory.proofs.Leaders.{leader_same, blocks_le}
use Rattle.theory.proofs.Terms.{same_cons}
use Rattle.theory.proofs.Growth.{alike_equivalence, born_long}

-- s has a transition
abbrev moves : List Transition → ℕ → Bool
moves [] s = false
moves (t ∷ ts) s = eqb t.source s || moves ts s

-- no more states move than there are transitions
count_moves : (ts : List Transition) (n : ℕ) → count (moves ts) n ≤ length ts
count_moves [] n = omega (arith, count_none (moves []) n (λ s _. tt))
count_moves (t ∷ ts) n = omega (
  arith,
  count_or (eqb t.source) (moves ts) n,
  count_moves ts n,
  count_one (eqb t.source) n (λ s u _ _ h g. sym (eqb→eq t.source s h) ∙ eqb→eq t.source u g),
)

or_not : (a b : Bool) → T (not (a || b)) → T (not a) × T (not b)
or_not true b h = absurd h
or_not false b h = (tt, h)

-- who does not move satisfies no formula of a birth
any_step_stuck : (ts : List Transition) (s a : ℕ) (f : ℕ → Bool) → T (not (moves ts s)) → any_step ts s a f ≡ false
any_step_stuck [] s a f h = refl
any_step_stuck (t ∷ ts) s a f h =
    let (p, q) = or_not (eqb t.source s) (moves ts s) h in
    cc (not_is (eqb t.source s) p, any_step_stuck ts s a f q)

stuck_alike : (m : Machine) (bs : List Birth) (s t : ℕ) → T (not (moves m.transitions s)) → T (not (moves m.transitions t)) → T (alike m bs s t)
stuck_alike m [] s t h g = tt
stuck_alike m (b ∷ bs) s t h g =
    let f = satisfies m (body m (formulas m bs) b.label b.reach b.lack) in
    same_cons m (formula m (formulas m bs) b) (formulas m bs) s t
    (any_step_stuck m.transitions s b.label f h ∙ sym (any_step_stuck m.transitions t b.label f g)) (stuck_alike m bs s t h g)

-- so at most one block more than transitions
blocks_transitions : (m : Machine) (bs : List Birth) (n : ℕ) → blocks (alike m bs) n ≤ suc (length m.transitions)
blocks_transitions m bs n =
    let ts = m.transitions in
    let leads : ℕ → Bool = λ s. eqb (leader (alike m bs) s) s in
    let still : ℕ → Bool = λ s. leads s && not (moves ts s) in
    omega (
      arith,
      count_more leads (λ s. still s || moves ts s) n (λ s _ h. elim (T-or_not (moves ts s)) [
        | inl g ↦ or_1 (still s) (moves ts s) g
        | inr g ↦ or_0 (still s) (moves ts s) (and_in (leads s) (not (moves ts s)) h g)
      ]),
      count_or still (moves ts) n,
      count_moves ts n,
      count_one still n (λ s t _ _ h g.
          let e = leader_same (alike m bs) (alike_equivalence m bs) s t (stuck_alike m bs s t (and_1 (leads s) (not (moves ts s)) h) (and_1 (leads t) (not (moves ts t)) g)) in
          sym (eqb→eq (leader (alike m bs) s) s (and_0 (leads s) (not (moves ts s)) h)) ∙ e ∙ eqb→eq (leader (alike m bs) t) t (and_0 (leads t) (not (moves ts t)) g)),
    )

-- fewer births than states
pub births_below_states : (m : Machine) (k : ℕ) (bs : List Birth) → AllBorn m k bs → length bs ≤ m.states - 1
births_below_states m k [] h = omega arith
births_below_states m k (b ∷ bs) h = omega (arith, born_long m k (b ∷ bs) h (omega (arith, h.1.holder_is_state)), blocks_le (alike m (b ∷ bs)) m.states)

-- and no more than transitions
pub births_at_most_transitions : (m : Machine) (k : ℕ) (bs : List Birth) → AllBorn m k bs → length bs ≤ length m.transitions
births_at_most_transitions m k [] h = omega arith
births_at_most_transitions m k (b ∷ bs) h = omega (arith, born_long m k (b ∷ bs) h (omega (arith, h.1.holder_is_state)), blocks_transitions m (b ∷ bs) m.states)
