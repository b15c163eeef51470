-- The words of two drawings encode the question of both.
use Rattle.std.proofs.Common.{◌≡◌, ℕ, ◌+◌, ◌<◌, ◌≤◌, T, List, [], ◌∷◌, ◌++◌, map, length, get_or, unwrap_or, sym, ap, ◌∙◌, append_assoc, arith, length-append}
use Rattle.std.proofs.lemmas.Bool.Decides.{nat_tests}
use Rattle.std.proofs.lemmas.List.{length-map}
use Rattle.lts.specs.Question.{Encodes, transition_words}
use Rattle.lts.proofs.Encoding.{transition_words_append}
use Rattle.drawing.specs.Arrows.{within}
use Rattle.drawing.specs.Model.{Plan}
use Rattle.names.specs.Places.{Name, noted_all}
use Rattle.names.proofs.Placed.{place_at}
use Rattle.beside.specs.Asks.{labels, relabelled, both_words, Noting, Ready}
use Rattle.beside.specs.Joined.{buttons_of_both, label_of, moved, joined, OneLabel}
use Rattle.beside.proofs.Labelling.{labels_at, length_labels}
use Rattle.beside.proofs.Moves.{moved_all, inside_all, inside_append}

-- what is known of a drawing
pub record Sound (p : Plan) : Type 0 where
  pub arrows : T (within (length p.states) (length p.buttons) p.arrows)
  pub start : p.start < length p.states

module _ (start own more : List Name) where
  abbrev all : List Name
  all = noted_all (noted_all start own) more

  labelled : (j : ℕ) → j < length own → get_or (labels start own) j 0 ≡ label_of all (get_or own j [])
  labelled j h = let at = labels_at start own more j h in at.1 ∙ sym (ap (λ o. unwrap_or o 0) at.2)

  below : length all ≤ 64 → (j : ℕ) → j < length own → label_of all (get_or own j []) < 64
  below few j h =
      let at = labels_at start own more j h in
      let is = ap (λ o. unwrap_or o 0) at.2 in
      omega (arith, (place_at all (get_or own j []) at.0 at.2).0)

  pub small : length all ≤ 64 → (j : ℕ) → j < length (labels start own) → get_or (labels start own) j 0 < 64
  small few j h = let l : j < length own = omega (arith, length_labels start own) in omega (arith, labelled j l, below few j l)

-- two drawings whose buttons were noted in turn, and which are few enough together
module _ (p q : Plan) (sp : Sound p) (sq : Sound q) {some all : List Name} {ls ms : List ℕ} (one : Noting [] p.buttons some ls) (two : Noting some q.buttons all ms)
    (few : length p.states + length q.states ≤ 4096) (fewer : length p.arrows + length q.arrows ≤ 16384) (labels-few : length all ≤ 64) where
  of_both : length (buttons_of_both p q) ≤ 64
  of_both = omega (arith, ap length (two.table ∙ ap (λ xs. noted_all xs q.buttons) one.table))

  first : ls ≡ labels [] p.buttons
  first = one.given

  second : ms ≡ labels (noted_all [] p.buttons) q.buttons
  second = two.given ∙ ap (λ xs. labels xs q.buttons) one.table

  pub ready : Ready p q ls ms
  ready = record {
    states = few;
    arrows = fewer;
    first_labels = ap length first ∙ length_labels [] p.buttons;
    second_labels = ap length second ∙ length_labels (noted_all [] p.buttons) q.buttons;
    first_small = rw first (small [] p.buttons q.buttons of_both);
    second_small = rw second (small (noted_all [] p.buttons) q.buttons [] of_both);
  }

  pub encodes_both : Encodes (both_words p q ls ms) (joined p q)
  unfolding joined
  encodes_both =
      let n = length p.states in
      let total = n + length q.states in
      let union = buttons_of_both p q in
      let ts = map (moved 0 union p.buttons) p.arrows in
      let us = map (moved n union q.buttons) q.arrows in
      let front : map (relabelled 0 ls) p.arrows ≡ ts = moved_all 0 n union p.buttons ls p.arrows sp.arrows (rw first (labelled [] p.buttons q.buttons)) in
      let back : map (relabelled n ms) q.arrows ≡ us = moved_all n (length q.states) union q.buttons ms q.arrows sq.arrows (rw second (labelled (noted_all [] p.buttons) q.buttons [])) in
      let count : length (ts ++ us) ≡ length p.arrows + length q.arrows = length-append ts us ∙ (λ i. length-map p.arrows (moved 0 union p.buttons) i + length-map q.arrows (moved n union q.buttons) i) in
      let end = p.start ∷ (n + q.start) ∷ [] in
      record {
        is = (λ i. total ∷ sym count i ∷ (transition_words (front i) ++ (transition_words (back i) ++ end)))
            ∙ ap (λ ws. total ∷ length (ts ++ us) ∷ ws) (sym (append_assoc (transition_words ts) (transition_words us) end) ∙ ap (λ ws. ws ++ end) (sym (transition_words_append ts us)));
        fine =
            let first = inside_all 0 n total union p.buttons p.arrows sp.arrows (omega arith) (below [] p.buttons q.buttons of_both) in
            let second = inside_all n (length q.states) total union q.buttons q.arrows sq.arrows (omega arith) (below (noted_all [] p.buttons) q.buttons [] of_both) in
            let all = inside_append total ts us first second in
            grind (arith, nat_tests, sp.start, sq.start, count);
      }

-- equal labels are equal places, where the same name stands
pub one_label : (p q : Plan) → OneLabel p q
one_label p q i j hi hj =
    let union = buttons_of_both p q in
    let b = get_or p.buttons i [] in
    let d = get_or q.buttons j [] in
    let one = labels_at [] p.buttons q.buttons i hi in
    let two = labels_at (noted_all [] p.buttons) q.buttons [] j hj in
    let first : label_of union b ≡ one.0 = ap (λ o. unwrap_or o 0) one.2 in
    let second : label_of union d ≡ two.0 = ap (λ o. unwrap_or o 0) two.2 in
    (λ e. sym (place_at union b one.0 one.2).1 ∙ ap (λ k. get_or union k []) (sym first ∙ e ∙ second) ∙ (place_at union d two.0 two.2).1, ap (label_of union))
