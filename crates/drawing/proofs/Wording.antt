-- What is written, piece by piece.
use Rattle.std.proofs.Common.{◌≡◌, ℕ, suc, ◌<◌, ◌≤◌, Bool, true, false, eqb, ◌⊎◌, List, [], ◌∷◌, ◌++◌, map, length, get_or, take, drop, sym, refl, ap, ◌∙◌, inl, inr, append_assoc, append-nil, take-append-drop, arith}
use Rattle.std.specs.Char.{char_set_contains}
use Rattle.std.specs.List.{flat_map}
use Rattle.std.specs.Option.{option_to_list}
use Rattle.std.specs.Str.{NoCharPasses}
use Rattle.std.specs.Str.Pattern.{HasPassingCharAt}
use Rattle.std.proofs.lemmas.Bool.{cases_eq, cases_lt}
use Rattle.std.proofs.lemmas.Bool.Decides.{nat_tests}
use Rattle.std.proofs.lemmas.List.Concat.{flat_map-append}
use Rattle.std.proofs.lemmas.Str.{NoCharPasses-byte}
use Rattle.std.proofs.lemmas.Str.Pattern.{drop_at_char}
use Rattle.script.specs.Grammar.{machine, start, state}
use Rattle.drawing.specs.Facts.{spelled}
use Rattle.drawing.specs.Model.{Plan}
use Rattle.drawing.specs.Shown.{until, first_word}
use Rattle.drawing.specs.Written.{line_of, text_of}

-- white space, as the characters at which the code cuts
abbrev pub white : ℕ → Bool
white = char_set_contains (32 ∷ 9 ∷ 13 ∷ [])

word_next : (b : ℕ) (bs : List ℕ) → white b ≡ false → first_word (b ∷ bs) ≡ b ∷ first_word bs
unfolding until
word_next b bs h =
    let x : eqb b 32 ≡ false = grind (arith, nat_tests) in
    let y : eqb b 9 ≡ false = grind (arith, nat_tests) in
    let z : eqb b 13 ≡ false = grind (arith, nat_tests) in
    rw (x, y, z)

word_end : (b : ℕ) (bs : List ℕ) → white b ≡ true → first_word (b ∷ bs) ≡ []
unfolding until
word_end b bs h = by (cases_eq b 32) (cases_eq b 9)
  where
    by : (b ≡ 32) ⊎ (b ≡ 32 → ⊥) → (b ≡ 9) ⊎ (b ≡ 9 → ⊥) → first_word (b ∷ bs) ≡ []
    by (inl e) f = rw e
    by (inr e) (inl f) = rw f
    by (inr e) (inr f) = let z : b ≡ 13 = grind (arith, nat_tests) in rw z

-- bytes that are no white space, and nothing of a word after them
word_free : (l rest : List ℕ) → first_word rest ≡ [] → ((i : ℕ) → i < length l → white (get_or l i 0) ≡ false) → first_word (l ++ rest) ≡ l
word_free [] rest e f = e
word_free (b ∷ l) rest e f = word_next b (l ++ rest) (f 0 (omega arith)) ∙ ap (λ m. b ∷ m) (word_free l rest e (λ i h. f (suc i) (omega arith)))

byte_free : (bs : List ℕ) → NoCharPasses white bs → (i : ℕ) → i < length bs → white (get_or bs i 0) ≡ false
byte_free bs n i h = by (cases_lt (get_or bs i 0) 128)
  where
    by : (get_or bs i 0 < 128) ⊎ (128 ≤ get_or bs i 0) → white (get_or bs i 0) ≡ false
    by (inl l) = NoCharPasses-byte white bs i n h l
    by (inr l) = grind (arith, nat_tests)

-- the first word, as std's `split_once` finds it
pub word_before : (s : List ℕ) (i j : ℕ) → NoCharPasses white (take i s) → HasPassingCharAt white s i j → first_word s ≡ take i s
word_before s i j n p =
    let low : p.0 < 128 = grind (arith, nat_tests, p.1) in
    ap first_word (sym (take-append-drop i s)) ∙ word_free (take i s) (drop i s) (ap first_word (drop_at_char p.0 s i j p.2 low) ∙ word_end p.0 (drop j s) p.1) (byte_free (take i s) n)

pub word_whole : (s : List ℕ) → NoCharPasses white s → first_word s ≡ s
unfolding until
word_whole s n = ap first_word (sym (append-nil s)) ∙ word_free s [] refl (byte_free s n)

-- the parts of a drawing's text in turn
pub pieces : (p : Plan) (a b c d e : List ℕ) → a ≡ [] → b ≡ a ++ flat_map line_of (map machine (option_to_list p.title)) → c ≡ b ++ line_of (start (get_or p.states p.start []))
    → d ≡ c ++ flat_map line_of (map state p.states) → e ≡ d ++ flat_map line_of (map (spelled p.states p.buttons) p.arrows) → e ≡ text_of p
unfolding text_of
pieces p a b c d e fa fb fc fd fe = rw (fe, fd, fc, fb, fa) (simp (flat_map-append, append_assoc))
