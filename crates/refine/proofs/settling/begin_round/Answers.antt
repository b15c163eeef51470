use Rattle.std.proofs.Common.{ℕ, ◌<◌, List, length, get_or, sym, subst}
use Rattle.chains.specs.Matching.{LeadsOn}
use Rattle.refine.proofs.settling.begin_round.Goals as goal

pub returns-clause-firsts : goal.returns-clause-firsts
returns-clause-firsts c = subst (λ (old : List ℕ). (j : ℕ) → j < length c.args.system.next.now → LeadsOn c.args.system.words.now old (length c.args.system.next.now) j (get_or c.represent.result.links.now j 0))
    (sym c.represent.ensures.blocks) c.represent.ensures.firsts
