-- Words and the question that they encode: the one is found again from the other.
use Rattle.std.proofs.Common.{◌≡◌, ℕ, zero, suc, ◌+◌, ◌*◌, ◌<◌, List, [], ◌∷◌, ◌++◌, length, get_or, take, drop, sym, refl, ap, ◌∙◌, add-zero, arith, length-append, length-drop, take-append-drop}
use Rattle.std.proofs.lemmas.List.{take_at, drop_at, get_or-drop, length-take-le}
use Rattle.lts.specs.declared.Transition.{Transition}
use Rattle.lts.specs.Question.{Question, transition_words, Encodes, OneQuestion}
use Rattle.lts.specs.Decoding.{transitions_of, question_of}

pub transitions_of_words : (ts : List Transition) → transitions_of (transition_words ts) ≡ ts
transitions_of_words [] = refl
transitions_of_words (t ∷ ts) = ap (λ us. t ∷ us) (transitions_of_words ts)

pub length_words : (ts : List Transition) → length (transition_words ts) ≡ 3 * length ts
length_words [] = refl
length_words (t ∷ ts) = omega (arith, length_words ts)

-- three words for each of k transitions hold k of them, and are their words
pub words_of_transitions : (k : ℕ) (ws : List ℕ) → length ws ≡ 3 * k → (transition_words (transitions_of ws) ≡ ws) × (length (transitions_of ws) ≡ k)
words_of_transitions zero [] e = (refl, refl)
words_of_transitions (suc k) [] e = absurd (omega arith)
words_of_transitions zero (s ∷ ws) e = absurd (omega arith)
words_of_transitions (suc k) (s ∷ []) e = absurd (omega arith)
words_of_transitions (suc k) (s ∷ a ∷ []) e = absurd (omega arith)
words_of_transitions (suc k) (s ∷ a ∷ t ∷ ws) e =
    let h = words_of_transitions k ws (omega arith) in
    (ap (λ us. s ∷ a ∷ t ∷ us) h.0, ap suc h.1)

two_left : (ws : List ℕ) → length ws ≡ 2 → ws ≡ get_or ws 0 0 ∷ get_or ws 1 0 ∷ []
two_left [] e = absurd (omega arith)
two_left (x ∷ []) e = absurd (omega arith)
two_left (x ∷ y ∷ []) e = refl
two_left (x ∷ y ∷ z ∷ ws) e = absurd (omega arith)

-- the words behind the first two, where they are three for each transition and two more
pub rest_words : (g : ℕ) (rest : List ℕ) → length rest ≡ 3 * g + 2 → transition_words (transitions_of (take (3 * g) rest)) ++ (get_or rest (3 * g) 0 ∷ get_or rest (3 * g + 1) 0 ∷ []) ≡ rest
rest_words g rest e =
    let front = (words_of_transitions g (take (3 * g) rest) (length-take-le (3 * g) rest (omega arith))).0 in
    let left : length (drop (3 * g) rest) ≡ 2 = omega (arith, length-drop (3 * g) rest) in
    let zeroth : get_or (drop (3 * g) rest) 0 0 ≡ get_or rest (3 * g) 0 = get_or-drop (3 * g) rest 0 0 ∙ ap (λ i. get_or rest i 0) (add-zero (3 * g)) in
    let oneth = get_or-drop (3 * g) rest 1 0 in
    let back = two_left (drop (3 * g) rest) left in
    let whole = take-append-drop (3 * g) rest in
    cc

-- what encodes a question decodes to it
pub decodes : (n g : ℕ) (rest : List ℕ) (q : Question) → Encodes (n ∷ g ∷ rest) q → (length rest ≡ 3 * g + 2) × (q ≡ question_of n (take (3 * g) rest) (get_or rest (3 * g) 0) (get_or rest (3 * g + 1) 0))
decodes n g rest q h =
    let ts = q.machine.transitions in
    let tail = q.first ∷ q.second ∷ [] in
    let e = h.is in
    let states : n ≡ q.machine.states = cc in
    let count : g ≡ length ts = cc in
    let words : rest ≡ transition_words ts ++ tail = cc in
    let long : length (transition_words ts) ≡ 3 * g = omega (arith, length_words ts) in
    let front : take (3 * g) rest ≡ transition_words ts = ap (take (3 * g)) words ∙ take_at (transition_words ts) tail (3 * g) long in
    let back : drop (3 * g) rest ≡ tail = ap (drop (3 * g)) words ∙ drop_at (transition_words ts) tail (3 * g) long in
    let one : get_or rest (3 * g) 0 ≡ q.first = ap (λ i. get_or rest i 0) (sym (add-zero (3 * g))) ∙ sym (get_or-drop (3 * g) rest 0 0) ∙ ap (λ ws. get_or ws 0 0) back in
    let two : get_or rest (3 * g + 1) 0 ≡ q.second = sym (get_or-drop (3 * g) rest 1 0) ∙ ap (λ ws. get_or ws 1 0) back in
    let same : transitions_of (take (3 * g) rest) ≡ ts = ap transitions_of front ∙ transitions_of_words ts in
    (omega (arith, ap length words, length-append (transition_words ts) tail), together n q.machine.states _ ts _ q.first _ q.second states same one two)
  where
    together : (n n' : ℕ) (ts ts' : List Transition) (f f' s s' : ℕ) → n ≡ n' → ts ≡ ts' → f ≡ f' → s ≡ s' → ◌≡◌ {A = Question} (record { machine = record { states = n'; transitions = ts' }; first = f'; second = s' }) (record { machine = record { states = n; transitions = ts }; first = f; second = s })
    together n n' ts ts' f f' s s' a b c d = cc

-- fewer than two words encode nothing
pub too_short : (words : List ℕ) (q : Question) → length words < 2 → Encodes words q → ⊥
too_short words q l h = omega (arith, ap length h.is)

pub one_question : OneQuestion
one_question [] p q hp hq = absurd (too_short [] p (omega arith) hp)
one_question (n ∷ []) p q hp hq = absurd (too_short (n ∷ []) p (omega arith) hp)
one_question (n ∷ g ∷ rest) p q hp hq = (decodes n g rest p hp).1 ∙ sym (decodes n g rest q hq).1

pub transition_words_append : (ts us : List Transition) → transition_words (ts ++ us) ≡ transition_words ts ++ transition_words us
transition_words_append [] us = refl
transition_words_append (t ∷ ts) us = ap (λ ws. t.source ∷ t.label ∷ t.target ∷ ws) (transition_words_append ts us)
