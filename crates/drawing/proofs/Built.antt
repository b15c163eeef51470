-- A draft is what its statements say.
use Rattle.std.proofs.Common.{◌≡◌, ℕ, List, [], ◌∷◌, ◌++◌, map, Some, None, sym, refl, ap, ◌∙◌, append-nil, arith}
use Rattle.std.specs.Option.{option_map, option_to_list}
use Rattle.std.specs.List.{flat_map, AllByRecursion as All}
use Rattle.std.proofs.ByRecursion.{All-push, All-weaker}
use Rattle.std.proofs.lemmas.List.{flat_map_more, map_push}
use Rattle.names.specs.Places.{Name, noted, noted_all}
use Rattle.names.proofs.Placed.{place_noted}
use Rattle.names.proofs.Turns.{noted_all_append, Extends, extends_same, extends_noted, extends_then, noted_place, known}
use Rattle.script.specs.Grammar.{Stated, blank, machine, start, state, arrow}
use Rattle.drawing.specs.declared.plan.Arrow.{Arrow}
use Rattle.drawing.specs.Model.{Draft, clear, with_state, with_arrow, numbered}
use Rattle.drawing.specs.Facts.{title_in, start_in, states_in, buttons_in, arrows_in, spelled, Within}

pub record Built (ss : List Stated) (k : Draft) : Type 0 where
  pub title : flat_map title_in ss ≡ option_to_list k.title
  pub start : flat_map start_in ss ≡ option_to_list (option_map (λ p. p.1) k.start)
  pub states : k.states ≡ noted_all [] (flat_map states_in ss)
  pub buttons : k.buttons ≡ noted_all [] (flat_map buttons_in ss)
  pub arrows : map (spelled k.states k.buttons) k.arrows ≡ flat_map arrows_in ss
  pub within : All (Within k.states k.buttons) k.arrows

pub built_none : Built [] clear
built_none = record { title = refl; start = refl; states = refl; buttons = refl; arrows = refl; within = tt }

module _ {A : Type 0} (f : Stated → List A) (ss : List Stated) (s : Stated) where
  pub joined_push : flat_map f (ss ++ (s ∷ [])) ≡ flat_map f ss ++ f s
  joined_push = sym (flat_map_more f [] ss s)

  -- a statement that gives nothing of the kind
  silent : f s ≡ [] → flat_map f (ss ++ (s ∷ [])) ≡ flat_map f ss
  silent e = joined_push ∙ ap (λ l. flat_map f ss ++ l) e ∙ append-nil (flat_map f ss)

-- transitions keep their names where names are added
spelled_kept : (xs ys bs cs : List Name) (rs : List Arrow) → Extends xs ys → Extends bs cs → All (Within xs bs) rs → map (spelled ys cs) rs ≡ map (spelled xs bs) rs
spelled_kept xs ys bs cs [] e f w = refl
spelled_kept xs ys bs cs (a ∷ rs) e f w =
    let rest = spelled_kept xs ys bs cs rs e f w.1 in
    let s = e.kept a.source w.0.0 in
    let b = f.kept a.button w.0.1 in
    let t = e.kept a.target w.0.2 in
    rw (rest, s, b, t) refl

within_kept : (xs ys bs cs : List Name) (rs : List Arrow) → Extends xs ys → Extends bs cs → All (Within xs bs) rs → All (Within ys cs) rs
within_kept xs ys bs cs rs e f =
    All-weaker (Within xs bs) (Within ys cs) (λ a w. (omega (arith, w.0, e.longer), omega (arith, w.1, f.longer), omega (arith, w.2, e.longer))) rs

module _ {ss : List Stated} {k : Draft} (old : Built ss k) where
  pub built_blank : Built (ss ++ (blank ∷ [])) k
  built_blank = record {
    title = silent title_in ss blank refl ∙ old.title;
    start = silent start_in ss blank refl ∙ old.start;
    states = old.states ∙ ap (noted_all []) (sym (silent states_in ss blank refl));
    buttons = old.buttons ∙ ap (noted_all []) (sym (silent buttons_in ss blank refl));
    arrows = old.arrows ∙ sym (silent arrows_in ss blank refl);
    within = old.within;
  }

  pub built_machine : (n : Name) → k.title ≡ None → Built (ss ++ (machine n ∷ [])) (record { title = Some n; start = k.start; states = k.states; buttons = k.buttons; arrows = k.arrows })
  built_machine n e = record {
    title = joined_push title_in ss (machine n) ∙ ap (λ l. l ++ (n ∷ [])) (old.title ∙ ap option_to_list e);
    start = silent start_in ss (machine n) refl ∙ old.start;
    states = old.states ∙ ap (noted_all []) (sym (silent states_in ss (machine n) refl));
    buttons = old.buttons ∙ ap (noted_all []) (sym (silent buttons_in ss (machine n) refl));
    arrows = old.arrows ∙ sym (silent arrows_in ss (machine n) refl);
    within = old.within;
  }

  pub built_start : (at : ℕ) (n : Name) → k.start ≡ None → Built (ss ++ (start n ∷ [])) (record { title = k.title; start = Some (at, n); states = k.states; buttons = k.buttons; arrows = k.arrows })
  built_start at n e = record {
    title = silent title_in ss (start n) refl ∙ old.title;
    start = joined_push start_in ss (start n) ∙ ap (λ l. l ++ (n ∷ [])) (old.start ∙ ap (λ o. option_to_list (option_map (λ p. p.1) o)) e);
    states = old.states ∙ ap (noted_all []) (sym (silent states_in ss (start n) refl));
    buttons = old.buttons ∙ ap (noted_all []) (sym (silent buttons_in ss (start n) refl));
    arrows = old.arrows ∙ sym (silent arrows_in ss (start n) refl);
    within = old.within;
  }

  pub built_state : (n : Name) → Built (ss ++ (state n ∷ [])) (with_state k n)
  built_state n = record {
    title = silent title_in ss (state n) refl ∙ old.title;
    start = silent start_in ss (state n) refl ∙ old.start;
    states = ap (λ l. noted l n) old.states ∙ sym (noted_all_append [] (flat_map states_in ss) (n ∷ [])) ∙ ap (noted_all []) (sym (joined_push states_in ss (state n)));
    buttons = old.buttons ∙ ap (noted_all []) (sym (silent buttons_in ss (state n) refl));
    arrows = spelled_kept k.states (noted k.states n) k.buttons k.buttons k.arrows (extends_noted k.states n) (extends_same k.buttons) old.within
        ∙ old.arrows ∙ sym (silent arrows_in ss (state n) refl);
    within = within_kept k.states (noted k.states n) k.buttons k.buttons k.arrows (extends_noted k.states n) (extends_same k.buttons) old.within;
  }

  pub built_arrow : (s b t : Name) → Built (ss ++ (arrow s b t ∷ [])) (with_arrow k s b t)
  built_arrow s b t =
      let mid = noted k.states s in
      let xs = noted mid t in
      let bs = noted k.buttons b in
      let a = numbered xs bs s b t in
      let e = extends_then k.states mid xs (extends_noted k.states s) (extends_noted mid t) in
      let f = extends_noted k.buttons b in
      let i = noted_place k.states s in
      let ks = known xs s i.0 (place_noted mid t s i.0 i.1) in
      let j = noted_place mid t in
      let kt = known xs t j.0 j.1 in
      let l = noted_place k.buttons b in
      let kb = known bs b l.0 l.1 in
      let here : spelled xs bs a ≡ arrow s b t = rw (ks.1, kb.1, kt.1) refl in
      record {
        title = silent title_in ss (arrow s b t) refl ∙ old.title;
        start = silent start_in ss (arrow s b t) refl ∙ old.start;
        states = ap (λ l. noted (noted l s) t) old.states ∙ sym (noted_all_append [] (flat_map states_in ss) (s ∷ (t ∷ []))) ∙ ap (noted_all []) (sym (joined_push states_in ss (arrow s b t)));
        buttons = ap (λ l. noted l b) old.buttons ∙ sym (noted_all_append [] (flat_map buttons_in ss) (b ∷ [])) ∙ ap (noted_all []) (sym (joined_push buttons_in ss (arrow s b t)));
        arrows = map_push (spelled xs bs) k.arrows a
            ∙ ap (λ l. l ++ (spelled xs bs a ∷ [])) (spelled_kept k.states xs k.buttons bs k.arrows e f old.within ∙ old.arrows)
            ∙ ap (λ u. flat_map arrows_in ss ++ (u ∷ [])) here
            ∙ sym (joined_push arrows_in ss (arrow s b t));
        within = All-push (Within xs bs) k.arrows a (within_kept k.states xs k.buttons bs k.arrows e f old.within) (ks.0, kb.0, kt.0);
      }
