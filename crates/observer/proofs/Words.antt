-- Words that are cut as `read` cuts them: the first two, three for each transition, and two.
use Rattle.std.proofs.Common.{◌≡◌, ℕ, suc, ◌+◌, ◌-◌, ◌*◌, ◌≤◌, Bool, true, false, T, List, [], ◌∷◌, length, get_or, take, drop, sym, refl, ap, ◌∙◌, subst, arith, length-drop}
use borrow.Author.Tests.{both_ways}
use Rattle.std.proofs.lemmas.List.{length-take-le}
use Rattle.std.specs.Bool.{then_some}
use Rattle.lts.specs.Question.{Question, Encodes, valid, transition_words}
use Rattle.lts.specs.Decoding.{question_of}
use Rattle.lts.proofs.Encoding.{words_of_transitions, rest_words, decodes}
use Rattle.observer.specs.declared.asked.Asked.{Asked}
use Rattle.observer.specs.Read.{Reads, ReadSays}

-- what stands between the first two words and the last two
abbrev pub between : List ℕ → List ℕ
between w = take (length w - 2 - 2) (drop 2 w)

-- what `read` makes of the words
abbrev pub made_of : List ℕ → Question
made_of w = question_of (get_or w 0 0) (between w) (get_or w (length w - 2) 0) (get_or w (length w - 1) 0)

-- the question in words n, g and rest
abbrev decoded : ℕ → ℕ → List ℕ → Question
decoded n g rest = question_of n (take (3 * g) rest) (get_or rest (3 * g) 0) (get_or rest (3 * g + 1) 0)

T-from : (b : Bool) → b ≡ true → T b
T-from b e = subst T (sym e) tt

T-to : (b : Bool) → T b → b ≡ true
T-to true h = refl
T-to false h = elim h [ ]

length_between : (w : List ℕ) → 4 ≤ length w → length (between w) + 4 ≡ length w
length_between w four =
    let cut = length-take-le (length w - 2 - 2) (drop 2 w) (omega (arith, length-drop 2 w)) in
    omega arith

-- that is the question in them
made_is : (n g : ℕ) (rest : List ℕ) → length rest ≡ 3 * g + 2 → made_of (n ∷ g ∷ rest) ≡ decoded n g rest
made_is n g rest long =
    let front : length (n ∷ g ∷ rest) - 2 - 2 ≡ 3 * g = omega arith in
    let first : length (n ∷ g ∷ rest) - 2 ≡ suc (suc (3 * g)) = omega arith in
    let second : length (n ∷ g ∷ rest) - 1 ≡ suc (suc (3 * g + 1)) = omega arith in
    rw (front, first, second)

encodes_it : (n g : ℕ) (rest : List ℕ) → length rest ≡ 3 * g + 2 → valid (decoded n g rest) ≡ true → Encodes (n ∷ g ∷ rest) (decoded n g rest)
encodes_it n g rest long ok =
    let front = words_of_transitions g (take (3 * g) rest) (length-take-le (3 * g) rest (omega arith)) in
    let whole = rest_words g rest long in
    record { is = let count = front.1 in cc; fine = T-from _ ok }

pub wrong_length : (w : List ℕ) (q : Question) → 4 ≤ length w → (length (between w) ≡ 3 * get_or w 1 0 → ⊥) → Encodes w q → ⊥
wrong_length [] q four bad h = omega arith
wrong_length (n ∷ []) q four bad h = omega arith
wrong_length (n ∷ g ∷ rest) q four bad h = bad (omega (arith, length_between (n ∷ g ∷ rest) four, (decodes n g rest q h).0))

pub reads_it : (w : List ℕ) → 4 ≤ length w → length (between w) ≡ 3 * get_or w 1 0 → valid (made_of w) ≡ true → Encodes w (made_of w)
reads_it [] four long ok = absurd (omega arith)
reads_it (n ∷ []) four long ok = absurd (omega arith)
reads_it (n ∷ g ∷ rest) four long ok =
    let whole : length rest ≡ 3 * g + 2 = omega (arith, length_between (n ∷ g ∷ rest) four) in
    let same = made_is n g rest whole in
    subst (Encodes (n ∷ g ∷ rest)) (sym same) (encodes_it n g rest whole (ap valid (sym same) ∙ ok))

pub reads_none : (w : List ℕ) (q : Question) → 4 ≤ length w → valid (made_of w) ≡ false → Encodes w q → ⊥
reads_none [] q four bad h = omega arith
reads_none (n ∷ []) q four bad h = omega arith
reads_none (n ∷ g ∷ rest) q four bad h =
    let d = decodes n g rest q h in
    let same : q ≡ made_of (n ∷ g ∷ rest) = d.1 ∙ sym (made_is n g rest d.0) in
    both_ways (valid (made_of (n ∷ g ∷ rest))) bad (ap valid (sym same) ∙ T-to (valid q) h.fine)

-- the part of the words that is borrowed holds transitions and nothing else
pub borrowed_words : (w : List ℕ) → length (between w) ≡ 3 * get_or w 1 0 → transition_words (made_of w).machine.transitions ≡ between w
borrowed_words w long = (words_of_transitions (get_or w 1 0) (between w) long).0

-- an answer by a test
pub says_by : (w : List ℕ) (a : Asked) (b : Bool) → (b ≡ true → Reads w a) → (b ≡ false → (q : Question) → Encodes w q → ⊥) → ReadSays w (then_some b a)
says_by w a true passes fails = passes refl
says_by w a false passes fails = fails refl
