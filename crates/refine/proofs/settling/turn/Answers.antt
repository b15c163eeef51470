use Rattle.std.proofs.Common.{arith}
use Rattle.formulas.specs.Adding.{birth_of}
use Rattle.refine.proofs.OneTurn.{lead_below, ends, reach_below, lack_below, lacks, room, goes_on}
use Rattle.refine.proofs.settling.turn.Goals as goal

pub next_birth-requires-clause-one : goal.next_birth-requires-clause-one
next_birth-requires-clause-one c = lead_below _ _ _ _ _ _ _ _ _ _ _ c.args.round.fixed c.args.round.begun c.requires.state c.requires.link c.requires.turning

pub returns-in_default : goal.returns-in_default
returns-in_default c = ends _ _ _ _ _ _ _ _ _ _ _ c.args.round.fixed c.args.round.begun c.requires.state c.requires.link c.requires.turning c.in_default.ensures

pub add_formula-requires : goal.add_formula-requires
add_formula-requires c =
    let round = c.args.round in
    let birth = birth_of c.in-Some.birth in
    let here = room _ _ _ _ _ _ _ _ _ _ _ round.fixed round.begun c.requires.state c.requires.link c.requires.turning birth c.in-Some.ensures in
    record {
      few = omega (arith, round.fixed.few);
      fits = omega (arith, round.fixed.narrow);
      link = c.requires.link;
      room = here;
      births = omega (arith, c.requires.births);
      scratch = omega (arith, c.requires.scratch, c.split_at_mut-sets.ensures.back_len);
      reach = reach_below _ _ _ _ _ _ _ _ _ _ _ round.fixed round.begun c.requires.state c.requires.link c.requires.turning birth c.in-Some.ensures;
      lack = lack_below _ _ _ _ _ _ _ _ _ _ _ round.fixed round.begun c.requires.state c.requires.link c.requires.turning birth c.in-Some.ensures;
      lacks = lacks _ _ _ _ _ _ _ _ _ _ _ round.fixed round.begun c.requires.state c.requires.link c.requires.turning birth c.in-Some.ensures;
    }

pub returns : goal.returns
returns c =
    goes_on _ _ _ _ _ _ _ _ _ _ _ c.args.round.fixed c.args.round.begun c.requires.state c.requires.link c.requires.turning (birth_of c.in-Some.birth) c.in-Some.ensures
    c.add_formula.new.births c.add_formula.new.rows c.add_formula.new.leads c.add_formula.ensures.births c.add_formula.ensures.link
