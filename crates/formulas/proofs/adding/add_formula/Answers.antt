use Rattle.std.proofs.Common.{arith}
use Rattle.theory.specs.Births.{Birth}
use Rattle.chains.specs.System.{target_at}
use Rattle.formulas.specs.Adding.{birth_of}
use Rattle.formulas.specs.Link.{births_of}
use Rattle.formulas.proofs.Linking.{adding, rows_differ, leads_within, link_added}
use Rattle.formulas.proofs.adding.add_formula.Goals as goal

pub evaluate-requires : goal.evaluate-requires
evaluate-requires c =
    let ws = c.args.system.words.now in
    let fs = c.args.system.first.now in
    let ns = c.args.system.next.now in
    let b : Birth = birth_of c.args.birth in
    let a = adding ws fs ns c.args.rows.now c.args.leads.now (births_of c.args.births.now c.args.count) b c.args.w
    c.args.system.chained c.args.system.bounded c.requires.reach c.requires.lacks c.requires.link in
    record {
      reach = c.requires.reach;
      lack = c.requires.lack;
      mask = omega arith;
      agree = omega arith;
      holds = omega arith;
      differing = λ j h x y. rows_differ c.requires.link b.reach (target_at ws j) c.requires.reach (c.args.system.bounded.target j h) (a.lacks j h x y);
    }

pub split-requires : goal.split-requires
split-requires c =
    let n = c.requires.link.led in
    record { few = omega (arith, c.requires.few); answers = omega arith; room = omega arith; leaders = leads_within c.requires.link }

pub returns : goal.returns
returns c =
    let ws = c.args.system.words.now in
    let fs = c.args.system.first.now in
    let ns = c.args.system.next.now in
    let a = adding ws fs ns c.args.rows.now c.args.leads.now (births_of c.args.births.now c.args.count) (birth_of c.args.birth) c.args.w
    c.args.system.chained c.args.system.bounded c.requires.reach c.requires.lacks c.requires.link in
    record {
      births = c.write.ensures;
      link = link_added ws fs ns c.args.rows.now c.args.leads.now c.args.births.now c.evaluate.new.holds c.extend_rows.new.rows c.split.new.leads
          c.args.w c.args.count (birth_of c.args.birth) a c.requires.room (omega arith) (omega arith) (omega arith) c.evaluate.ensures c.extend_rows.ensures c.split.ensures;
    }
