use Rattle.std.proofs.Common.{List, ℕ, length, get_or, set, ap, subst, ◌∙◌, arith}
use Rattle.chains.proofs.Walking.{stepped}
use Rattle.chains.proofs.Firsts.{Firsts, firsts_end, firsts_next}
use Rattle.chains.proofs.representing.link_firsts.Goals as goal

pub loop-j-preserved : goal.loop-j-preserved
loop-j-preserved c =
    let (_, _, same, firsts) = c.loop-j.invariant in
    let (is, within, on, links) = c.in-Some.ensures.steps in
    let s = c.args.s.0 in
    let system = c.args.blocks.system in
    let ws = system.words.now in
    let old = c.args.blocks.old.now in
    let fs = system.first.now in
    let ns = system.next.now in
    let step = stepped ns _ _ _ _ same is within on in
    let here = subst (λ i. Firsts ws old fs (length ns) s i c.loop-j.last c.args.sets.now c.loop-j.sets c.args.links.now c.loop-j.links) step.was firsts in
    let next = firsts_next ws old fs ns c.args.links.now c.loop-j.links s c.in-Some.j c.loop-j.last c.args.sets.now c.loop-j.sets c.add_label_of-last.new.sets
    system.chained system.bounded step.within c.requires.emptied here
    c.add_label_of-last.result (omega (arith, c.requires.each, c.loop-j.auto.links)) c.add_label_of-last.ensures.latest c.add_label_of-last.ensures.added in
    (tt, tt, links ∙ same, subst (λ i. Firsts ws old fs (length ns) s i c.add_label_of-last.result c.args.sets.now c.add_label_of-last.new.sets c.args.links.now (set c.loop-j.links c.add_label_of-last.result (get_or ns c.in-Some.j 0))) step.on next)

pub returns : goal.returns
returns c =
    let (_, _, same, firsts) = c.loop-j.invariant in
    record {
      represented = firsts.represented;
      firsts = firsts_end _ _ _ _ _ _ _ _ _ _ _ firsts (omega (arith, c.in-None.ensures.steps, ap (λ (l : List ℕ). length l) same));
      others = firsts.kept;
    }
