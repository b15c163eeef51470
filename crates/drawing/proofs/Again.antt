-- What a text draws is drawn again by the text of that drawing.
use Rattle.std.proofs.Common.{◌≡◌, ℕ, ◌+◌, ◌≤◌, List, [], ◌∷◌, ◌++◌, map, length, get_or, Some, None, Option, sym, refl, ap, ◌∙◌, subst, append-nil, arith}
use Rattle.std.specs.Option.{option_map, option_to_list}
use Rattle.std.specs.List.{flat_map, AllByRecursion as All}
use Rattle.std.proofs.lemmas.List.Concat.{flat_map-append, flat_map_single}
use Rattle.std.proofs.lemmas.List.Folds.{flat_map-map}
use Rattle.std.proofs.lemmas.List.{map-id}
use Rattle.std.proofs.lemmas.Bool.Decides.{nat_tests}
use Rattle.names.specs.Places.{Name, place, noted_all, Distinct}
use Rattle.names.proofs.Placed.{place_own}
use Rattle.names.proofs.Turns.{noted_all_append, noted_known, noted_own}
use Rattle.script.specs.Grammar.{Stated, blank, machine, start, state, arrow, says, reading}
use Rattle.drawing.specs.declared.plan.Arrow.{Arrow}
use Rattle.drawing.specs.Facts.{said, title_in, start_in, states_in, buttons_in, arrows_in, spelled, Within, Faithful}
use Rattle.drawing.specs.Lines.{lines_of}
use Rattle.drawing.specs.Model.{Draft, Plan, draws, clear, excess, closed, found, begun, finish, drawn}
use Rattle.drawing.specs.Written.{statements_of, text_of, RoundTrip}
use Rattle.drawing.proofs.Believed.{faithful}
use Rattle.drawing.proofs.Built.{Built, built_none}
use Rattle.drawing.proofs.Complete.{complete}
use Rattle.drawing.proofs.Writable.{statements_writable, lines_written, reads_written}

quiet : {X Y Z : Type 0} (f : Y → List Z) (g : X → Y) → ((x : X) → f (g x) ≡ []) → (xs : List X) → flat_map f (map g xs) ≡ []
quiet f g h [] = refl
quiet f g h (x ∷ xs) = ap (λ l. l ++ flat_map f (map g xs)) (h x) ∙ quiet f g h xs

-- the statements of a drawing, and the line after the last newline
abbrev all_of : Plan → List Stated
all_of p = statements_of p ++ (blank ∷ [])

abbrev start_of : Plan → Name
start_of p = get_or p.states p.start []

abbrev arrows_of : Plan → List Stated
arrows_of p = map (spelled p.states p.buttons) p.arrows

parts : {A : Type 0} (f : Stated → List A) (p : Plan) → f blank ≡ [] → flat_map f (all_of p) ≡ flat_map f (map machine (option_to_list p.title)) ++ (f (start (start_of p)) ++ (flat_map f (map state p.states) ++ flat_map f (arrows_of p)))
parts f p h =
    flat_map-append f (statements_of p) (blank ∷ []) ∙ ap (λ l. flat_map f (statements_of p) ++ (l ++ [])) h ∙ append-nil (flat_map f (statements_of p))
    ∙ flat_map-append f (map machine (option_to_list p.title)) (start (start_of p) ∷ (map state p.states ++ arrows_of p))
    ∙ ap (λ l. flat_map f (map machine (option_to_list p.title)) ++ (f (start (start_of p)) ++ l)) (flat_map-append f (map state p.states) (arrows_of p))

titles_again : (p : Plan) → flat_map title_in (all_of p) ≡ option_to_list p.title
titles_again p =
    let a : flat_map title_in (map machine (option_to_list p.title)) ≡ option_to_list p.title = flat_map-map title_in machine (option_to_list p.title) ∙ flat_map_single (λ n. n) (option_to_list p.title) ∙ map-id (option_to_list p.title) in
    let b : flat_map title_in (map state p.states) ≡ [] = quiet title_in state (λ n. refl) p.states in
    let c : flat_map title_in (arrows_of p) ≡ [] = quiet title_in (spelled p.states p.buttons) (λ n. refl) p.arrows in
    parts title_in p refl ∙ ap (λ l. l ++ (flat_map title_in (map state p.states) ++ flat_map title_in (arrows_of p))) a
    ∙ ap (λ l. option_to_list p.title ++ (l ++ flat_map title_in (arrows_of p))) b ∙ ap (λ l. option_to_list p.title ++ l) c ∙ append-nil (option_to_list p.title)

starts_again : (p : Plan) → flat_map start_in (all_of p) ≡ start_of p ∷ []
starts_again p =
    let a : flat_map start_in (map machine (option_to_list p.title)) ≡ [] = quiet start_in machine (λ n. refl) (option_to_list p.title) in
    let b : flat_map start_in (map state p.states) ≡ [] = quiet start_in state (λ n. refl) p.states in
    let c : flat_map start_in (arrows_of p) ≡ [] = quiet start_in (spelled p.states p.buttons) (λ n. refl) p.arrows in
    parts start_in p refl ∙ ap (λ l. l ++ (start_of p ∷ (flat_map start_in (map state p.states) ++ flat_map start_in (arrows_of p)))) a
    ∙ ap (λ l. start_of p ∷ (l ++ flat_map start_in (arrows_of p))) b ∙ ap (λ l. start_of p ∷ l) c

states_again : (p : Plan) → flat_map states_in (all_of p) ≡ p.states ++ flat_map states_in (arrows_of p)
states_again p =
    let a : flat_map states_in (map machine (option_to_list p.title)) ≡ [] = quiet states_in machine (λ n. refl) (option_to_list p.title) in
    let b : flat_map states_in (map state p.states) ≡ p.states = flat_map-map states_in state p.states ∙ flat_map_single (λ n. n) p.states ∙ map-id p.states in
    parts states_in p refl ∙ ap (λ l. l ++ (flat_map states_in (map state p.states) ++ flat_map states_in (arrows_of p))) a
    ∙ ap (λ l. l ++ flat_map states_in (arrows_of p)) b

arrows_again : (p : Plan) → flat_map arrows_in (all_of p) ≡ arrows_of p
arrows_again p =
    let a : flat_map arrows_in (map machine (option_to_list p.title)) ≡ [] = quiet arrows_in machine (λ n. refl) (option_to_list p.title) in
    let b : flat_map arrows_in (map state p.states) ≡ [] = quiet arrows_in state (λ n. refl) p.states in
    let c : flat_map arrows_in (arrows_of p) ≡ arrows_of p = flat_map-map arrows_in (spelled p.states p.buttons) p.arrows ∙ flat_map_single (spelled p.states p.buttons) p.arrows in
    parts arrows_in p refl ∙ ap (λ l. l ++ (flat_map arrows_in (map state p.states) ++ flat_map arrows_in (arrows_of p))) a
    ∙ ap (λ l. l ++ flat_map arrows_in (arrows_of p)) b ∙ c

button_of : (s : Stated) → buttons_in s ≡ flat_map buttons_in (arrows_in s)
button_of blank = refl
button_of (machine n) = refl
button_of (start n) = refl
button_of (state n) = refl
button_of (arrow s b t) = refl

-- buttons are those of the transitions
buttons_of : (ss : List Stated) → flat_map buttons_in ss ≡ flat_map buttons_in (flat_map arrows_in ss)
buttons_of [] = refl
buttons_of (s ∷ ss) = ap (λ l. l ++ flat_map buttons_in ss) (button_of s) ∙ ap (λ l. flat_map buttons_in (arrows_in s) ++ l) (buttons_of ss) ∙ sym (flat_map-append buttons_in (arrows_in s) (flat_map arrows_in ss))

-- the ends of transitions are states
ends_known : (xs bs : List Name) (rs : List Arrow) → Distinct xs → All (Within xs bs) rs → All (λ n. (i : ℕ) × (place xs n ≡ Some i)) (flat_map states_in (map (spelled xs bs) rs))
ends_known xs bs [] d w = tt
ends_known xs bs (a ∷ rs) d w = ((a.source, place_own xs a.source d w.0.0), ((a.target, place_own xs a.target d w.0.2), ends_known xs bs rs d w.1))

arrow_same : (a b : Arrow) → a.source ≡ b.source → a.button ≡ b.button → a.target ≡ b.target → a ≡ b
arrow_same a b e f g =
    ap (λ s. record { source = s; button = a.button; target = a.target }) e
    ∙ ap (λ s. record { source = b.source; button = s; target = a.target }) f
    ∙ ap (λ s. record { source = b.source; button = b.button; target = s }) g

-- transitions by name are so by number
same_arrows : (xs bs : List Name) (rs qs : List Arrow) → Distinct xs → Distinct bs → All (Within xs bs) rs → All (Within xs bs) qs → map (spelled xs bs) rs ≡ map (spelled xs bs) qs → rs ≡ qs
same_arrows xs bs [] [] d f v w e = refl
same_arrows xs bs [] (q ∷ qs) d f v w e = absurd (cc)
same_arrows xs bs (r ∷ rs) [] d f v w e = absurd (cc)
same_arrows xs bs (r ∷ rs) (q ∷ qs) d f v w e =
    let s : get_or xs r.source [] ≡ get_or xs q.source [] = cc in
    let b : get_or bs r.button [] ≡ get_or bs q.button [] = cc in
    let t : get_or xs r.target [] ≡ get_or xs q.target [] = cc in
    let rest : map (spelled xs bs) rs ≡ map (spelled xs bs) qs = cc in
    let here = arrow_same r q (d r.source q.source v.0.0 w.0.0 s) (f r.button q.button v.0.1 w.0.1 b) (d r.target q.target v.0.2 w.0.2 t) in
    ap (λ a. a ∷ rs) here ∙ ap (λ l. q ∷ l) (same_arrows xs bs rs qs d f v.1 w.1 rest)

list_of_same : {X : Type 0} (o q : Option X) → option_to_list o ≡ option_to_list q → o ≡ q
list_of_same None None e = refl
list_of_same None (Some y) e = cc
list_of_same (Some x) None e = cc
list_of_same (Some x) (Some y) e = cc

list_of_one : {X : Type 0} (o : Option X) → length (option_to_list o) ≤ 1
list_of_one None = omega arith
list_of_one (Some x) = omega arith

fits : (k : Draft) → length k.states ≤ 4096 → length k.arrows ≤ 16384 → length k.buttons ≤ 64 → excess k ≡ None
fits k a b c = grind (arith, nat_tests)

-- the same parts are closed to the same drawing
finish_again : (at : ℕ) (k : Draft) (p : Plan) (n : Name) → k.title ≡ p.title → k.states ≡ p.states → k.buttons ≡ p.buttons → k.arrows ≡ p.arrows → option_to_list (option_map (λ q. q.1) k.start) ≡ n ∷ []
    → place k.states n ≡ Some p.start → excess k ≡ None → finish at k ≡ draws p
unfolding finish
finish_again at k p n t s b a h i x = by k.start h
  where
    whole : closed at k p.start None ≡ draws p
    whole =
        ap (λ u. draws (record { title = u; states = k.states; buttons = k.buttons; arrows = k.arrows; start = p.start })) t
        ∙ ap (λ u. draws (record { title = p.title; states = u; buttons = k.buttons; arrows = k.arrows; start = p.start })) s
        ∙ ap (λ u. draws (record { title = p.title; states = p.states; buttons = u; arrows = k.arrows; start = p.start })) b
        ∙ ap (λ u. draws (record { title = p.title; states = p.states; buttons = p.buttons; arrows = u; start = p.start })) a

    by : (o : Option (ℕ × Name)) → option_to_list (option_map (λ q. q.1) o) ≡ n ∷ [] → begun at k o ≡ draws p
    by None e = absurd (cc)
    by (Some q) e =
        let m : q.1 ≡ n = cc in
        ap (found at k q) (ap (place k.states) m ∙ i) ∙ ap (closed at k p.start) x ∙ whole

-- the draft at the end of the text of a drawing
module _ (text : List ℕ) (p : Plan) (f : Faithful text p) (k : Draft) (b : Built (all_of p) k) where
  same_states : k.states ≡ p.states
  same_states =
      b.states ∙ ap (noted_all []) (states_again p) ∙ noted_all_append [] p.states (flat_map states_in (arrows_of p))
      ∙ ap (λ l. noted_all l (flat_map states_in (arrows_of p))) (noted_own [] p.states f.states_differ)
      ∙ noted_known p.states (flat_map states_in (arrows_of p)) (ends_known p.states p.buttons p.arrows f.states_differ f.arrows_within)

  same_buttons : k.buttons ≡ p.buttons
  same_buttons =
      b.buttons ∙ ap (noted_all []) (buttons_of (all_of p) ∙ ap (flat_map buttons_in) (arrows_again p ∙ f.arrows) ∙ sym (buttons_of (said text))) ∙ sym f.buttons

  same_transitions : k.arrows ≡ p.arrows
  same_transitions =
      same_arrows p.states p.buttons k.arrows p.arrows f.states_differ f.buttons_differ
      (subst (λ l. All (Within p.states l) k.arrows) same_buttons (subst (λ l. All (Within l k.buttons) k.arrows) same_states b.within)) f.arrows_within
      (ap (λ l. map (spelled l p.buttons) k.arrows) (sym same_states) ∙ ap (λ l. map (spelled k.states l) k.arrows) (sym same_buttons) ∙ b.arrows ∙ arrows_again p)

  pub same_end : (at : ℕ) → finish at k ≡ draws p
  same_end at =
      let s = ap length same_states in
      let r = ap length same_transitions in
      let u = ap length same_buttons in
      finish_again at k p (start_of p) (list_of_same k.title p.title (sym b.title ∙ titles_again p)) same_states same_buttons same_transitions
      (sym b.start ∙ starts_again p)
      (ap (λ l. place l (start_of p)) same_states ∙ place_own p.states p.start f.states_differ f.start_within)
      (fits k (omega (arith, f.few_states)) (omega (arith, f.few_arrows)) (omega (arith, f.few_buttons)))

pub again : RoundTrip
unfolding drawn text_of
again text p e =
    let f = faithful text p e in
    let w = statements_writable text p f in
    let ls = lines_of (text_of p) in
    let reads : map reading ls ≡ map says (all_of p) = ap (map reading) (lines_written (statements_of p) w) ∙ reads_written (statements_of p) w in
    let r = complete 0 clear [] (all_of p) ls built_none reads (subst (λ l. length l ≤ 1) (sym (titles_again p)) (list_of_one p.title)) (subst (λ l. length l ≤ 1) (sym (starts_again p)) (omega arith)) in
    r.ends ∙ same_end text p f r.last r.built (0 + length ls)
