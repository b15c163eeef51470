-- A drawing is faithful to its text.
use Rattle.std.proofs.Common.{◌≡◌, ℕ, ◌≤◌, List, [], ◌∷◌, map, length, get_or, None, Ok, Err, Result, sym, ap, ◌∙◌, subst, arith}
use Rattle.std.specs.Option.{option_map, option_to_list}
use Rattle.std.specs.List.{flat_map}
use Rattle.std.proofs.lemmas.Bool.Decides.{nat_tests}
use Rattle.names.specs.Places.{Distinct}
use Rattle.names.proofs.Placed.{place_at}
use Rattle.names.proofs.Turns.{distinct_none, distinct_noted_all}
use Rattle.script.specs.Grammar.{says, reading}
use Rattle.drawing.specs.declared.plan.Drawing.{Drawing}
use Rattle.drawing.specs.declared.Trouble.{Trouble}
use Rattle.drawing.specs.declared.Trouble.TheVariants.{Refused, Memory}
use Rattle.drawing.specs.Code.{planned, why, Agrees}
use Rattle.drawing.specs.Lines.{lines_of}
use Rattle.drawing.specs.Model.{Draft, Plan, draws, clear, excess, drawn}
use Rattle.drawing.specs.Facts.{spelled, Faithful, said, states_in, buttons_in, Reliable}
use Rattle.drawing.proofs.Built.{Built, built_none}
use Rattle.drawing.proofs.Refusals.{refusal_line}
use Rattle.drawing.proofs.Runs.{run_built, Closed, finish_closed}

-- a draft with no excess
pub small : (k : Draft) → excess k ≡ None → (length k.states ≤ 4096) × (length k.arrows ≤ 16384) × (length k.buttons ≤ 64)
small k e = grind (arith, nat_tests)

-- what the draft is built of, and the plan that is made of it
pub faithful_to : (text : List ℕ) (k : Draft) (p : Plan) → map reading (lines_of text) ≡ map says (said text) → Built (said text) k → Closed k p → Faithful text p
faithful_to text k p lines b c =
    let at = place_at k.states c.start_name p.start c.start_place in
    let few = small k c.fits in
    let fs = ap length c.states in
    let fa = ap length c.arrows in
    let fb = ap length c.buttons in
    record {
      lines = lines;
      title = b.title ∙ ap option_to_list (sym c.title);
      start = b.start ∙ ap (λ o. option_to_list (option_map (λ q. q.1) o)) c.start ∙ ap (λ n. n ∷ []) (sym at.1) ∙ ap (λ l. get_or l p.start [] ∷ []) (sym c.states);
      states = c.states ∙ b.states;
      buttons = c.buttons ∙ b.buttons;
      arrows = ap (λ l. map (spelled l p.buttons) p.arrows) c.states ∙ ap (λ l. map (spelled k.states l) p.arrows) c.buttons ∙ ap (map (spelled k.states k.buttons)) c.arrows ∙ b.arrows;
      states_differ = subst Distinct (sym (c.states ∙ b.states)) (distinct_noted_all [] (flat_map states_in (said text)) distinct_none);
      buttons_differ = subst Distinct (sym (c.buttons ∙ b.buttons)) (distinct_noted_all [] (flat_map buttons_in (said text)) distinct_none);
      some_state = omega (arith, at.0);
      few_states = omega (arith, few.0);
      few_arrows = omega (arith, few.1);
      few_buttons = omega (arith, few.2);
      start_within = omega (arith, at.0);
      arrows_within = rw (c.states, c.buttons, c.arrows) b.within;
    }

pub faithful : (text : List ℕ) (p : Plan) → drawn text ≡ draws p → Faithful text p
unfolding drawn
faithful text p e =
    let r = run_built 0 clear [] (lines_of text) p built_none e in
    faithful_to text r.last p r.lines r.built (finish_closed _ r.last p r.ends)

-- what an exact result can be relied on for
pub reliable : (text : List ℕ) (r : Result Drawing Trouble) → Agrees r (drawn text) → Reliable r text
reliable text (Ok d) a = faithful text (planned d) a
reliable text (Err (Refused f)) a = refusal_line text f.line (why f.reason) a
reliable text (Err Memory) a = tt
