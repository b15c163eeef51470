-- A statement that is printed is read again as itself.
use Rattle.std.proofs.Common.{◌≡◌, ℕ, suc, Bool, true, false, cond, not, ◌&&◌, ◌||◌, T, eqb, List, [], ◌∷◌, ◌++◌, length, get_or, take, drop, codes, sym, refl, ap, ◌∙◌, subst, ⊎_elim, arith}
use Rattle.std.proofs.lemmas.List.{append_assoc, append-nil, take_at, drop_at}
use Rattle.std.proofs.lemmas.Bool.{eq-eqb, eqb-true, cond-true, cond-false, cases_Bool, and_parts, and_right}
use Rattle.std.proofs.lemmas.Bool.Decides.{nat_tests}
use Rattle.script.specs.Grammar.{Stated, Worded, blank, machine, start, state, arrow, says, gap, skip, ended, signed, plain, bare, word, unquoted, lettered, quoted, named, last, past_colon, keyed, past_first, headed, reading}
use Rattle.script.specs.Printed.{writable, written, printed, ReadsBack}
use Rattle.script.proofs.Cuts.{unquoted_some, named_bare}
use Rattle.script.proofs.Lacks.{holds_is, and_0, and_1, no_quote, writable_lacks}

-- what may stand after a written name
abbrev stop : List ℕ → Bool
stop [] = true
stop (c ∷ bs) = eqb c 58 || eqb c 32

stop_plain : (c : ℕ) → (eqb c 58 || eqb c 32) ≡ true → plain c ≡ false
stop_plain c h = grind (arith, nat_tests)

stop_sign : (c : ℕ) → (eqb c 58 || eqb c 32) ≡ true → eqb c 62 ≡ false
stop_sign c h = grind (arith, nat_tests)

bare_stop_0 : (rest : List ℕ) → T (stop rest) → bare rest ≡ 0
bare_stop_0 [] h = refl
bare_stop_0 (c ∷ bs) h = ap (λ b. cond (b && not (signed (c ∷ bs))) (suc (bare bs)) 0) (stop_plain c (holds_is (eqb c 58 || eqb c 32) h))

signed_append : (c : ℕ) (n rest : List ℕ) → T (stop rest) → signed (c ∷ (n ++ rest)) ≡ signed (c ∷ n)
signed_append c [] [] h = refl
signed_append c [] (d ∷ bs) h = and_right (eqb c 45) (eqb d 62) (stop_sign d (holds_is (eqb d 58 || eqb d 32) h))
signed_append c (d ∷ n) rest h = refl

cond_suc : (b : Bool) (m k : ℕ) → cond b (suc m) 0 ≡ suc k → (b ≡ true) × (m ≡ k)
cond_suc true m k e = (refl, omega arith)
cond_suc false m k e = absurd (omega arith)

bare_append : (n rest : List ℕ) → T (stop rest) → bare n ≡ length n → bare (n ++ rest) ≡ length n
bare_append [] rest h e = bare_stop_0 rest h
bare_append (c ∷ n) rest h e =
    let p = cond_suc (plain c && not (signed (c ∷ n))) (bare n) (length n) e in
    ap (λ s. cond (plain c && not s) (suc (bare (n ++ rest))) 0) (signed_append c n rest h)
    ∙ cond-true (plain c && not (signed (c ∷ n))) (suc (bare (n ++ rest))) 0 p.0
    ∙ ap suc (bare_append n rest h p.1)

-- the first byte of a written name
pub record Opens (bs : List ℕ) : Type 0 where
  pub first : ℕ
  pub more : List ℕ
  pub is : bs ≡ first ∷ more
  pub no_gap : gap first ≡ false
  pub no_comment : eqb first 35 ≡ false
  pub no_colon : eqb first 58 ≡ false

plain_opens : (c : ℕ) → plain c ≡ true → (gap c ≡ false) × (eqb c 35 ≡ false) × (eqb c 58 ≡ false)
plain_opens c h = (grind (arith, nat_tests), grind (arith, nat_tests), grind (arith, nat_tests))

written_bare : (n : List ℕ) → bare n ≡ length n → written n ≡ n
written_bare n e = cond-true (eqb (bare n) (length n)) n (34 ∷ (n ++ (34 ∷ []))) (eq-eqb (bare n) (length n) e)

written_quoted : (n : List ℕ) → eqb (bare n) (length n) ≡ false → written n ≡ 34 ∷ (n ++ (34 ∷ []))
written_quoted n e = cond-false (eqb (bare n) (length n)) n (34 ∷ (n ++ (34 ∷ []))) e

bare_opens : (n rest : List ℕ) → T (writable n) → bare n ≡ length n → Opens (n ++ rest)
bare_opens [] rest h e = absurd h
bare_opens (c ∷ n) rest h e =
    let p = cond_suc (plain c && not (signed (c ∷ n))) (bare n) (length n) e in
    let o = plain_opens c (and_parts (plain c) (not (signed (c ∷ n))) p.0).0 in
    record { first = c; more = n ++ rest; is = refl; no_gap = o.0; no_comment = o.1; no_colon = o.2 }

written_opens : (n rest : List ℕ) → T (writable n) → Opens (written n ++ rest)
written_opens n rest h =
    ⊎_elim
    (λ e. let b = eqb-true (bare n) (length n) e in subst (λ l. Opens (l ++ rest)) (sym (written_bare n b)) (bare_opens n rest h b))
    (λ e. subst (λ l. Opens (l ++ rest)) (sym (written_quoted n e)) (record { first = 34; more = (n ++ (34 ∷ [])) ++ rest; is = refl; no_gap = refl; no_comment = refl; no_colon = refl }))
    (cases_Bool (eqb (bare n) (length n)))

opens_skip : (bs : List ℕ) → Opens bs → skip bs ≡ bs
opens_skip bs o = ap skip o.is ∙ cond-false (gap o.first) (skip o.more) (o.first ∷ o.more) o.no_gap ∙ sym o.is

opens_ended : (bs : List ℕ) → Opens bs → ended bs ≡ false
opens_ended bs o = ap ended o.is ∙ o.no_comment

opens_keyed : (q : Bool) (n bs : List ℕ) → Opens bs → past_first q n bs ≡ keyed q n bs
opens_keyed q n bs o = ap (past_first q n) o.is ∙ cond-false (eqb o.first 58) (past_colon n (named (skip o.more))) (keyed q n (o.first ∷ o.more)) o.no_colon ∙ ap (keyed q n) (sym o.is)

-- a name is read as a word, quoted or not
named_plain : (n rest : List ℕ) → T (writable n) → T (stop rest) → bare n ≡ length n → named (n ++ rest) ≡ word false n rest
named_plain [] rest h k e = absurd h
named_plain (c ∷ n) rest h k e =
    let all = bare_append (c ∷ n) rest k e in
    let quote-free = no_quote (c ∷ n) (writable_lacks (c ∷ n) h).0 in
    sym (named_bare ((c ∷ n) ++ rest) (λ l q. quote-free 0 (omega arith) (ap (λ (x : List ℕ). get_or x 0 0) q)) (λ z. omega arith))
    ∙ ap (λ m. word false (take m ((c ∷ n) ++ rest)) (drop m ((c ∷ n) ++ rest))) all
    ∙ cc (take_at (c ∷ n) rest (length (c ∷ n)) refl, drop_at (c ∷ n) rest (length (c ∷ n)) refl)

lettered_word : (at n rest : List ℕ) → T (writable n) → lettered at n rest ≡ word true n rest
lettered_word at [] rest h = absurd h
lettered_word at (c ∷ n) rest h = refl

named_quoted : (n rest : List ℕ) → T (writable n) → named (34 ∷ ((n ++ (34 ∷ [])) ++ rest)) ≡ word true n rest
named_quoted n rest h =
    let at = 34 ∷ ((n ++ (34 ∷ [])) ++ rest) in
    ap (quoted at) (ap unquoted (append_assoc n (34 ∷ []) rest) ∙ unquoted_some n rest (no_quote n (writable_lacks n h).0)) ∙ lettered_word at n rest h

named_written : (n rest : List ℕ) → T (writable n) → T (stop rest) → (q : Bool) × (named (written n ++ rest) ≡ word q n rest)
named_written n rest h k =
    ⊎_elim
    (λ e. let b = eqb-true (bare n) (length n) e in (false, ap (λ l. named (l ++ rest)) (written_bare n b) ∙ named_plain n rest h k b))
    (λ e. (true, ap (λ l. named (l ++ rest)) (written_quoted n e) ∙ named_quoted n rest h))
    (cases_Bool (eqb (bare n) (length n)))

-- a name at the end of the line
last_written : (f : List ℕ → Stated) (n : List ℕ) → T (writable n) → last f (named (skip (32 ∷ written n))) ≡ says (f n)
last_written f n h =
    let at = append-nil (written n) in
    let w = named_written n [] h tt in
    ap (λ l. last f (named (skip (32 ∷ l)))) (sym at) ∙ ap (λ l. last f (named l)) (opens_skip (written n ++ []) (written_opens n [] h)) ∙ ap (last f) w.1

keyed_written : (k n : List ℕ) → T (writable n) → past_first false k (skip (32 ∷ written n)) ≡ keyed false k (skip (32 ∷ written n))
keyed_written k n h =
    let o = subst Opens (append-nil (written n)) (written_opens n [] h) in
    let s = opens_skip (written n) o in
    ap (past_first false k) s ∙ opens_keyed false k (written n) o ∙ ap (keyed false k) (sym s)

reading_opens : (bs : List ℕ) (w : Worded) → Opens bs → named bs ≡ w → reading bs ≡ headed w
unfolding reading
reading_opens bs w o e =
    let s = opens_skip bs o in
    cond-false (ended (skip bs)) (says blank) (headed (named (skip bs))) (ap ended s ∙ opens_ended bs o) ∙ ap (λ l. headed (named l)) s ∙ ap headed e

arrow_printed : (s b t : List ℕ) → T (writable s) → T (writable b) → T (writable t) → reading (printed (arrow s b t)) ≡ says (arrow s b t)
arrow_printed s b t hs hb ht =
    let after-button = codes " -> " ++ written t in
    let after-state = codes ": " ++ (written b ++ after-button) in
    let state-word = named_written s after-state hs tt in
    reading_opens (written s ++ after-state) (word state-word.0 s after-state) (written_opens s after-state hs) state-word.1
    ∙ ap (λ l. past_colon s (named l)) (opens_skip (written b ++ after-button) (written_opens b after-button hb))
    ∙ ap (past_colon s) (named_written b after-button hb tt).1
    ∙ last_written (arrow s b) t ht

pub reading_printed : ReadsBack
unfolding reading
reading_printed blank h = refl
reading_printed (machine n) h = keyed_written (codes "machine") n h ∙ last_written machine n h
reading_printed (start n) h = keyed_written (codes "start") n h ∙ last_written start n h
reading_printed (state n) h = keyed_written (codes "state") n h ∙ last_written state n h
reading_printed (arrow s b t) h =
    let more = and_1 (writable s) (writable b && writable t) h in
    arrow_printed s b t (and_0 (writable s) (writable b && writable t) h) (and_0 (writable b) (writable t) more) (and_1 (writable b) (writable t) more)
