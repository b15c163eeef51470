use Rattle.std.proofs.Common.{◌≡◌, ℕ, ◌+◌, ◌<◌, List, length, get_or, sym, subst, inl, inr, arith}
use Rattle.std.proofs.lemmas.Bool.{cases_eq}
use Rattle.chains.specs.System.{source_at}
use Rattle.chains.specs.Matching.{Represented, LeadsOn}
use Rattle.chains.proofs.Walking.{represented_all}
use Rattle.chains.proofs.representing.represent.Goals as goal

-- one more state's links lead on
more : (ws old skips skips' : List ℕ) (g s : ℕ) → ((j : ℕ) → j < g → source_at ws j < s → LeadsOn ws old g j (get_or skips j 0))
    → ((j : ℕ) → j < g → source_at ws j ≡ s → LeadsOn ws old g j (get_or skips' j 0)) → ((j : ℕ) → (source_at ws j ≡ s → ⊥) → get_or skips' j 0 ≡ get_or skips j 0)
    → (j : ℕ) → j < g → source_at ws j < s + 1 → LeadsOn ws old g j (get_or skips' j 0)
more ws old skips skips' g s before here kept j h l = elim (cases_eq (source_at ws j) s) [
  | inl e ↦ here j h e
  | inr n ↦ subst (LeadsOn ws old g j) (sym (kept j n)) (before j h (omega (arith, n, l)))
]

pub invariant_of-whole-clause-represented : goal.invariant_of-whole-clause-represented
invariant_of-whole-clause-represented c = represented_all _ _ _ _ c.args.system.chained

pub loop-s-init : goal.loop-s-init
loop-s-init c = (
  subst (Represented c.args.system.words.now c.args.old.now c.args.system.first.now) (sym c.copy_from_slice.ensures.after) (represented_all _ _ _ _ c.args.system.chained),
  λ j h l. absurd (omega (arith, l)),
)

pub loop-s-preserved : goal.loop-s-preserved
loop-s-preserved c =
    let ws = c.args.system.words.now in
    let after = c.link_firsts.ensures in (
      after.represented,
      more ws c.args.old.now c.loop-s.links c.link_firsts.new.links (length c.args.system.next.now) c.loop-s.s c.loop-s.invariant.1 after.firsts after.others,
    )

pub returns-clause-firsts : goal.returns-clause-firsts
returns-clause-firsts c = λ j h. c.loop-s.invariant.1 j h (omega (arith, c.args.system.bounded.source j h))
