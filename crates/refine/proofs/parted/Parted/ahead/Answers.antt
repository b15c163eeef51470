use Rattle.std.proofs.Common.{length, sym, ap, subst}
use Rattle.chains.specs.System.{machine_of}
use Rattle.theory.specs.Births.{Birth, births}
use Rattle.theory.specs.Rows.{first_formula, TellsLeast}
use Rattle.refine.proofs.Telling.{closed_in, level_tells}
use Rattle.refine.proofs.parted.Parted.ahead.Goals as goal

pub returns : goal.returns
returns c =
    let self = c.args.self in
    let m = machine_of self.states self.words.now in
    let h = c.in_ok-first.ensures in
    let level = level_tells m (closed_in _ _ self.askable) self.births.now self.counts.formulas c.args.s.0 c.args.t.0 c.in_ok-first.first self.done.born c.requires.one c.requires.other h.within h.apart h.is in
    subst (λ d. TellsLeast m c.args.s.0 c.args.t.0 (first_formula m (births m) c.args.s.0 c.args.t.0) d) (sym (ap (λ (b : Birth). b.level) c.birth.ensures)) level
