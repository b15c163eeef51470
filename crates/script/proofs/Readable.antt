-- What is read can be written.
use Rattle.std.proofs.Common.{◌≡◌, ℕ, suc, ◌<◌, Bool, true, false, cond, not, ◌&&◌, T, eqb, List, [], ◌∷◌, length, take, drop, codes, sym, refl, ap, ◌∙◌, subst, arith}
use mathlib.Core.Option.{Option, some, none}
use Rattle.std.specs.Str.{bytes_eq}
use Rattle.std.proofs.lemmas.Float.{T_from_true}
use Rattle.std.proofs.lemmas.List.{length-take-le}
use Rattle.std.proofs.lemmas.Bool.{false≢true, ne_eqb, eqb-false, and_parts, cond_both}
use Rattle.script.specs.Grammar.{Stated, blank, machine, start, state, arrow, Reading, says, fault, skip, ended, signed, plain, bare, Worded, word, no_word, onto, unquoted, lettered, quoted, named, last, past_button, past_colon, keyed, past_first, headed, reading}
use Rattle.script.specs.declared.Expected.TheVariants.{Name, Colon, Sign, End}
use Rattle.script.specs.Printed.{lacks, writable, writable_all}
use Rattle.script.proofs.Cuts.{bare_le}
use Rattle.script.proofs.Lacks.{and_0, and_1, and_in, lacks_drop, lacks_skip, writable_from}

-- a word with a name that can be written, and no newline after it
abbrev Good : Worded → Type 0
Good (word q n rest) = T (writable n) × T (lacks 10 rest)
Good (no_word e at) = Unit {0}

abbrev Fine : Reading → Type 0
Fine (says s) = T (writable_all s)
Fine (fault e at) = Unit {0}

abbrev Split : Option (List ℕ × List ℕ) → Type 0
Split none = Unit {0}
Split (some p) = T (lacks 34 p.0) × T (lacks 10 p.0) × T (lacks 10 p.1)

onto_split : (c : ℕ) (o : Option (List ℕ × List ℕ)) → eqb c 34 ≡ false → T (not (eqb c 10)) → Split o → Split (onto c o)
onto_split c none e h s = tt
onto_split c (some p) e h s = (and_in (not (eqb c 34)) (lacks 34 p.0) (T_from_true (not (eqb c 34)) (ap not e)) s.0, and_in (not (eqb c 10)) (lacks 10 p.0) h s.1, s.2)

unquoted_split : (bs : List ℕ) → T (lacks 10 bs) → Split (unquoted bs)
unquoted_split [] h = tt
unquoted_split (c ∷ bs) h =
    let more = and_1 (not (eqb c 10)) (lacks 10 bs) h in
    let ih = unquoted_split bs more in
    cond_both (eqb c 34) (some ([], bs)) (onto c (unquoted bs)) Split (λ _. (tt, tt, more)) (λ e. onto_split c (unquoted bs) e (and_0 (not (eqb c 10)) (lacks 10 bs) h) ih)

lettered_good : (at n rest : List ℕ) → T (lacks 34 n) → T (lacks 10 n) → T (lacks 10 rest) → Good (lettered at n rest)
lettered_good at [] rest q h k = tt
lettered_good at (c ∷ n) rest q h k = (and_in (lacks 34 (c ∷ n)) (lacks 10 (c ∷ n)) q h, k)

quoted_good : (at : List ℕ) (o : Option (List ℕ × List ℕ)) → Split o → Good (quoted at o)
quoted_good at none s = tt
quoted_good at (some p) s = lettered_good at p.0 p.1 s.0 s.1 s.2

-- a name without quotes has plain bytes only
plain_apart : (c d : ℕ) → plain c ≡ true → plain d ≡ false → eqb c d ≡ false
plain_apart c d h k = ne_eqb c d (λ e. false≢true (sym k ∙ sym (ap plain e) ∙ h))

bare_lacks : (d : ℕ) (bs : List ℕ) → plain d ≡ false → T (lacks d (take (bare bs) bs))
bare_lacks d [] k = tt
bare_lacks d (c ∷ bs) k =
    let ih = bare_lacks d bs k in
    cond_both (plain c && not (signed (c ∷ bs))) (suc (bare bs)) 0 (λ n. T (lacks d (take n (c ∷ bs))))
    (λ e. and_in (not (eqb c d)) (lacks d (take (bare bs) bs)) (T_from_true (not (eqb c d)) (ap not (plain_apart c d (and_parts (plain c) (not (signed (c ∷ bs))) e).0 k))) ih)
    (λ _. tt)

named_good : (bs : List ℕ) → T (lacks 10 bs) → Good (named bs)
named_good [] h = tt
named_good (c ∷ bs) h =
    cond_both (eqb c 34) (quoted (c ∷ bs) (unquoted bs)) (cond (eqb (bare (c ∷ bs)) 0) (no_word Name (c ∷ bs)) (word false (take (bare (c ∷ bs)) (c ∷ bs)) (drop (bare (c ∷ bs)) (c ∷ bs)))) Good
    (λ _. quoted_good (c ∷ bs) (unquoted bs) (unquoted_split bs (and_1 (not (eqb c 10)) (lacks 10 bs) h)))
    (λ _. cond_both (eqb (bare (c ∷ bs)) 0) (no_word Name (c ∷ bs)) (word false (take (bare (c ∷ bs)) (c ∷ bs)) (drop (bare (c ∷ bs)) (c ∷ bs))) Good
    (λ _. tt)
    (λ e.
    let some-long : 0 < length (take (bare (c ∷ bs)) (c ∷ bs)) = omega (arith, eqb-false (bare (c ∷ bs)) 0 e, length-take-le (bare (c ∷ bs)) (c ∷ bs) (bare_le (c ∷ bs))) in
    (writable_from (take (bare (c ∷ bs)) (c ∷ bs)) some-long (bare_lacks 34 (c ∷ bs) refl) (bare_lacks 10 (c ∷ bs) refl), lacks_drop 10 (bare (c ∷ bs)) (c ∷ bs) h)))

last_fine : (f : List ℕ → Stated) (w : Worded) → ((n : List ℕ) → T (writable n) → T (writable_all (f n))) → Good w → Fine (last f w)
last_fine f (no_word e at) h g = tt
last_fine f (word q n rest) h g = cond_both (ended (skip rest)) (says (f n)) (fault End (skip rest)) Fine (λ _. h n g.0) (λ _. tt)

past_button_fine : (s b at : List ℕ) → T (writable s) → T (writable b) → T (lacks 10 at) → Fine (past_button s b at)
past_button_fine s b at h k l =
    cond_both (signed at) (last (arrow s b) (named (skip (drop 2 at)))) (fault Sign at) Fine
    (λ _. last_fine (arrow s b) (named (skip (drop 2 at))) (λ t m. and_in (writable s) (writable b && writable t) h (and_in (writable b) (writable t) k m)) (named_good (skip (drop 2 at)) (lacks_skip 10 (drop 2 at) (lacks_drop 10 2 at l))))
    (λ _. tt)

past_colon_fine : (s : List ℕ) (w : Worded) → T (writable s) → Good w → Fine (past_colon s w)
past_colon_fine s (no_word e at) h g = tt
past_colon_fine s (word q b rest) h g = past_button_fine s b (skip rest) h g.0 (lacks_skip 10 rest g.1)

keyed_fine : (q : Bool) (n at : List ℕ) → T (lacks 10 at) → Fine (keyed q n at)
keyed_fine true n at h = tt
keyed_fine false n at h =
    let g = named_good at h in
    cond_both (bytes_eq n (codes "machine")) (last machine (named at)) (cond (bytes_eq n (codes "start")) (last start (named at)) (cond (bytes_eq n (codes "state")) (last state (named at)) (fault Colon at))) Fine
    (λ _. last_fine machine (named at) (λ _ k. k) g)
    (λ _. cond_both (bytes_eq n (codes "start")) (last start (named at)) (cond (bytes_eq n (codes "state")) (last state (named at)) (fault Colon at)) Fine
    (λ _. last_fine start (named at) (λ _ k. k) g)
    (λ _. cond_both (bytes_eq n (codes "state")) (last state (named at)) (fault Colon at) Fine (λ _. last_fine state (named at) (λ _ k. k) g) (λ _. tt)))

past_first_fine : (q : Bool) (n at : List ℕ) → T (writable n) → T (lacks 10 at) → Fine (past_first q n at)
past_first_fine q n [] k h = keyed_fine q n [] h
past_first_fine q n (c ∷ bs) k h =
    cond_both (eqb c 58) (past_colon n (named (skip bs))) (keyed q n (c ∷ bs)) Fine
    (λ _. past_colon_fine n (named (skip bs)) k (named_good (skip bs) (lacks_skip 10 bs (and_1 (not (eqb c 10)) (lacks 10 bs) h))))
    (λ _. keyed_fine q n (c ∷ bs) h)

headed_fine : (w : Worded) → Good w → Fine (headed w)
headed_fine (no_word e at) g = tt
headed_fine (word q n rest) g = past_first_fine q n (skip rest) g.0 (lacks_skip 10 rest g.1)

reading_fine : (bs : List ℕ) → T (lacks 10 bs) → Fine (reading bs)
unfolding reading
reading_fine bs h = cond_both (ended (skip bs)) (says blank) (headed (named (skip bs))) Fine (λ _. tt) (λ _. headed_fine (named (skip bs)) (named_good (skip bs) (lacks_skip 10 bs h)))

pub reading_writable : (bs : List ℕ) (s : Stated) → T (lacks 10 bs) → reading bs ≡ says s → T (writable_all s)
reading_writable bs s h e = subst Fine e (reading_fine bs h)
