use Rattle.std.proofs.Common.{ℕ, ◌<◌, ◌≡◌, length, sym, ap, subst, arith}
use Rattle.theory.specs.Births.{Birth}
use Rattle.chains.specs.System.{source_at, label_at, target_at}
use Rattle.formulas.specs.Marks.{Terms, Differing}
use Rattle.lines.proofs.Known.{lack_below, reach_below, differing, terms_are}
use Rattle.lines.proofs.terms.find_terms.Goals as goal

pub mark_terms-requires-clause-reach : goal.mark_terms-requires-clause-reach
mark_terms-requires-clause-reach c = omega (arith, ap (λ (x : Birth). x.reach) c.birth-birth.ensures, reach_below c.args.refined c.args.j c.requires.formula)

pub mark_terms-requires-clause-lack : goal.mark_terms-requires-clause-lack
mark_terms-requires-clause-lack c = omega (arith, ap (λ (x : Birth). x.lack) c.birth-birth.ensures, lack_below c.args.refined c.args.j c.requires.formula)

pub mark_terms-requires-clause-differing : goal.mark_terms-requires-clause-differing
mark_terms-requires-clause-differing c =
    let a = c.args.refined.answers in
    subst (λ (x : Birth). (i : ℕ) → i < length a.system.next.now → source_at a.system.words.now i ≡ x.lack → label_at a.system.words.now i ≡ x.label → Differing a.rows.now a.width x.reach (target_at a.system.words.now i))
    (sym c.birth-birth.ensures) (differing c.args.refined c.args.j c.requires.formula)

pub returns : goal.returns
returns c =
    let a = c.args.refined.answers in
    terms_are c.args.refined c.args.j c.requires.formula c.mark_terms.new.mask
    (subst (λ (x : Birth). Terms a.system.words.now a.rows.now a.width x.label x.reach x.lack (length a.system.next.now) c.mark_terms.new.mask) c.birth-birth.ensures c.mark_terms.ensures)
