use Rattle.std.proofs.Common.{◌≡◌, ℕ, List, sym, subst, add-one, arith}
use Rattle.theory.specs.Births.{Birth, births}
use Rattle.theory.specs.Told.{tell}
use Rattle.refine.specs.Refined.{machine_in}
use Rattle.lines.specs.Marked.{lines_up_to}
use Rattle.lines.specs.Progress.{all_needed, text_to, Placed}
use Rattle.lines.specs.Written.{Written}
use Rattle.lines.proofs.Counted.{tell_none}
use Rattle.lines.proofs.OneFormula.{some_line, first_line}
use Rattle.lines.proofs.telling.tell.Goals as goal

pub write_line-requires : goal.write_line-requires
write_line-requires c = omega (arith, c.requires.room, c.args.needs.marked.size, some_line (machine_in c.args.needs.refined) (all_needed c.args.needs) (births (machine_in c.args.needs.refined)))

pub loop-j-init : goal.loop-j-init
loop-j-init c = (sym (tell_none (machine_in c.args.needs.refined) (all_needed c.args.needs)), λ i o t. absurd (omega arith), λ before w. w)

pub loop-j-preserved : goal.loop-j-preserved
loop-j-preserved c =
    let told = c.tell_formula-next.ensures in
    subst (λ k. (c.tell_formula-next.result ≡ lines_up_to c.args.needs.refined (all_needed c.args.needs) k) × Placed c.args.needs.refined (all_needed c.args.needs) k c.tell_formula-next.new.places
    × ((before : List ℕ) → Written before (text_to c.args.needs.refined (all_needed c.args.needs) 0).lines c.write_line.new.lines → Written before (text_to c.args.needs.refined (all_needed c.args.needs) k).lines c.tell_formula-next.new.lines))
    (sym (add-one c.loop-j.j)) (told.next, told.placed, λ before w. told.wrote before (c.loop-j.invariant.2 before w))

pub returns : goal.returns
returns c =
    let r = c.args.needs.refined in
    let end : c.loop-j.j ≡ r.counts.formulas = omega (arith, c.loop-j-test.false, c.loop-j.auto.j-end) in
    let all = c.loop-j.invariant.2 c.args.lines.now (first_line r (all_needed c.args.needs) c.args.lines.now c.write_line.new.lines c.write_line.ensures) in
    subst (λ (bs : List Birth). Written c.args.lines.now (tell (machine_in r) (all_needed c.args.needs) bs).lines c.loop-j.lines) c.args.needs.refined.done.born
    (subst (λ k. Written c.args.lines.now (text_to r (all_needed c.args.needs) k).lines c.loop-j.lines) end all)
