-- Where words begin and end.
use Rattle.std.proofs.Common.{◌≡◌, ℕ, zero, suc, ◌+◌, ◌<◌, ◌≤◌, true, false, cond, List, [], ◌∷◌, length, get_or, take, drop, IsUtf8, sym, refl, ap, ◌∙◌, ⊎_elim, inl, inr, subst, arith}
use Rattle.std.specs.Str.{IsCharBoundary}
use Rattle.std.proofs.lemmas.List.{drop_more, drop_all, length-drop}
use Rattle.std.proofs.lemmas.Bool.{false≢true, cases_Bool, cases_lt, cond-true, cond-false, cond_both}
use Rattle.std.proofs.lemmas.Str.{IsCharBoundary-start, IsCharBoundary-after_ascii}
use Rattle.std.proofs.lemmas.Bool.Decides.{nat_tests}
use Rattle.query.specs.Reading.{blank, skip, run, put, cut, pieces}

-- Blanks in front, and what stands before the first

skip_at : (bs : List ℕ) (i : ℕ) → i < length bs → skip (drop i bs) ≡ cond (blank (get_or bs i 0)) (skip (drop (i + 1) bs)) (drop i bs)
skip_at bs i h = rw (drop_more bs i 0 h)

pub skip_none : (bs : List ℕ) (i : ℕ) → length bs ≤ i → skip (drop i bs) ≡ drop i bs
skip_none bs i h = rw (drop_all i bs h)

blank_low : (c : ℕ) → blank c ≡ true → c < 128
blank_low c h = grind (arith, nat_tests)

-- n blanks stand in front
abbrev pub Blanks : List ℕ → ℕ → Type 0
Blanks bs n = (k : ℕ) → k < n → blank (get_or bs k 0) ≡ true

-- a blank is ASCII, so a text may be cut behind it
pub cut_behind : (bs : List ℕ) (n : ℕ) → IsUtf8 bs → n ≤ length bs → Blanks bs n → IsCharBoundary bs n
cut_behind bs zero u h g = IsCharBoundary-start bs u
cut_behind bs (suc n) u h g = subst (IsCharBoundary bs) (omega arith) (IsCharBoundary-after_ascii bs n u (omega arith) (blank_low (get_or bs n 0) (g n (omega arith))))

-- blanks in front are skipped
skip_front : (bs : List ℕ) (n : ℕ) → n ≤ length bs → Blanks bs n → skip (drop n bs) ≡ skip bs
skip_front bs zero h g = refl
skip_front bs (suc n) h g =
    let here : blank (get_or bs n 0) ≡ true = g n (omega arith) in
    let next : n + 1 ≡ suc n = omega arith in
    let one : skip (drop n bs) ≡ skip (drop (suc n) bs) = skip_at bs n (omega arith) ∙ cond-true (blank (get_or bs n 0)) _ _ here ∙ ap (λ m. skip (drop m bs)) next in
    sym one ∙ skip_front bs n (omega arith) (λ k l. g k (omega arith))

-- where none follows, nothing is skipped
skip_end : (bs : List ℕ) (n : ℕ) → n ≤ length bs → (n < length bs → blank (get_or bs n 0) ≡ false) → skip (drop n bs) ≡ drop n bs
skip_end bs n h e = elim (cases_lt n (length bs)) [
  | inl l ↦ skip_at bs n l ∙ cond-false (blank (get_or bs n 0)) _ _ (e l)
  | inr l ↦ skip_none bs n l
]

pub skipped : (bs : List ℕ) (n : ℕ) → n ≤ length bs → Blanks bs n → (n < length bs → blank (get_or bs n 0) ≡ false) → drop n bs ≡ skip bs
skipped bs n h g e = sym (skip_end bs n h e) ∙ skip_front bs n h g

run_at : (bs : List ℕ) (i : ℕ) → i < length bs → run (drop i bs) ≡ cond (blank (get_or bs i 0)) 0 (suc (run (drop (i + 1) bs)))
run_at bs i h = rw (drop_more bs i 0 h)

pub run_none : (bs : List ℕ) (i : ℕ) → length bs ≤ i → run (drop i bs) ≡ 0
run_none bs i h = rw (drop_all i bs h)

-- what stands before the first blank counts
run_front : (bs : List ℕ) (n : ℕ) → n ≤ length bs → ((k : ℕ) → k < n → blank (get_or bs k 0) ≡ false) → n + run (drop n bs) ≡ run bs
run_front bs zero h g = omega arith
run_front bs (suc n) h g =
    let here = run_at bs n (omega arith) ∙ cond-false (blank (get_or bs n 0)) 0 (suc (run (drop (n + 1) bs))) (g n (omega arith)) in
    let on : n + 1 ≡ suc n = omega arith in
    let next : run (drop (n + 1) bs) ≡ run (drop (suc n) bs) = ap (λ m. run (drop m bs)) on in
    omega (arith, here, next, run_front bs n (omega arith) (λ k l. g k (omega arith)))

pub run_to : (bs : List ℕ) (n : ℕ) → n ≤ length bs → ((k : ℕ) → k < n → blank (get_or bs k 0) ≡ false) → (n < length bs → blank (get_or bs n 0) ≡ true) → n ≡ run bs
run_to bs n h g e =
    let none : run (drop n bs) ≡ 0 = elim (cases_lt n (length bs)) [
      | inl l ↦ run_at bs n l ∙ cond-true (blank (get_or bs n 0)) 0 (suc (run (drop (n + 1) bs))) (e l)
      | inr l ↦ run_none bs n l
    ] in
    omega (arith, none, run_front bs n h g)

-- The first word, and what follows it

run_le : (bs : List ℕ) → run bs ≤ length bs
run_le [] = omega arith
run_le (c ∷ bs) =
    let ih = run_le bs in
    cond_both (blank c) 0 (suc (run bs)) (λ n. n ≤ suc (length bs)) (λ _. omega arith) (λ _. omega arith)

run_low : (bs : List ℕ) → run bs < length bs → get_or bs (run bs) 0 < 128
run_low [] h = absurd (omega arith)
run_low (c ∷ bs) h =
    let ih = run_low bs in
    cond_both (blank c) 0 (suc (run bs)) (λ n. n < suc (length bs) → get_or (c ∷ bs) n 0 < 128) (λ e _. blank_low c e) (λ _ l. ih (omega arith)) h

-- a word ends beside a blank, or at the end
pub run_cut : (bs : List ℕ) → IsCharBoundary bs (run bs)
run_cut bs = (run_le bs, λ l h. absurd (omega (arith, run_low bs l)))

skip_le : (bs : List ℕ) → length (skip bs) ≤ length bs
skip_le [] = omega arith
skip_le (c ∷ bs) =
    let ih = skip_le bs in
    cond_both (blank c) (skip bs) (c ∷ bs) (λ l. length l ≤ suc (length bs)) (λ _. omega arith) (λ _. omega arith)

pub skip_again : (bs : List ℕ) → skip (skip bs) ≡ skip bs
skip_again [] = refl
skip_again (c ∷ bs) = cond_both (blank c) (skip bs) (c ∷ bs) (λ l. skip l ≡ l) (λ _. skip_again bs) (λ e. cond-false (blank c) (skip bs) (c ∷ bs) e)

-- what is left after blanks begins with no blank
first_plain : (c : ℕ) (bs : List ℕ) → skip (c ∷ bs) ≡ c ∷ bs → blank c ≡ false
first_plain c bs h =
    ⊎_elim (λ e. let long = ap length (sym (cond-true (blank c) (skip bs) (c ∷ bs) e) ∙ h) in absurd (omega (arith, long, skip_le bs))) (λ e. e) (cases_Bool (blank c))

pub pieces_skip : (bs : List ℕ) → pieces (skip bs) ≡ pieces bs
pieces_skip [] = refl
pieces_skip (c ∷ bs) =
    cond_both (blank c) (skip bs) (c ∷ bs) (λ l. pieces l ≡ pieces (c ∷ bs))
    (λ e. pieces_skip bs ∙ sym (ap (λ (r : List ℕ × List (List ℕ)). put r.0 r.1) (cond-true (blank c) ([], pieces bs) (c ∷ (cut bs).0, (cut bs).1) e)))
    (λ _. refl)

cut_is : (bs : List ℕ) → cut bs ≡ (take (run bs) bs, pieces (drop (run bs) bs))
cut_is [] = refl
cut_is (c ∷ bs) =
    cond_both (blank c) 0 (suc (run bs)) (λ n. cut (c ∷ bs) ≡ (take n (c ∷ bs), pieces (drop n (c ∷ bs))))
    (λ e. let k = cond-true (blank c) ([], pieces bs) (c ∷ (cut bs).0, (cut bs).1) e in k ∙ ap (λ ws. ([], ws)) (sym (ap (λ (r : List ℕ × List (List ℕ)). put r.0 r.1) k)))
    (λ e. cond-false (blank c) ([], pieces bs) (c ∷ (cut bs).0, (cut bs).1) e ∙ ap (λ (r : List ℕ × List (List ℕ)). (c ∷ r.0, r.1)) (cut_is bs))

-- the first word, where something is left after blanks
pub pieces_next : (bs : List ℕ) → (length bs ≡ 0 → ⊥) → skip bs ≡ bs → pieces bs ≡ take (run bs) bs ∷ pieces (drop (run bs) bs)
pieces_next [] some h = absurd (some refl)
pieces_next (c ∷ bs) some h =
    ap (λ (r : List ℕ × List (List ℕ)). put r.0 r.1) (cut_is (c ∷ bs))
    ∙ cond_both (blank c) 0 (suc (run bs)) (λ n. put (take n (c ∷ bs)) (pieces (drop n (c ∷ bs))) ≡ take n (c ∷ bs) ∷ pieces (drop n (c ∷ bs)))
    (λ e. absurd (false≢true (sym (first_plain c bs h) ∙ e))) (λ _. refl)

-- so less is left after it
pub next_shorter : (bs more : List ℕ) → (length bs ≡ 0 → ⊥) → skip bs ≡ bs → more ≡ drop (run bs) bs → length (skip more) < length bs
next_shorter [] more some h e = absurd (some refl)
next_shorter (c ∷ bs) more some h e =
    let r = cond-false (blank c) 0 (suc (run bs)) (first_plain c bs h) in
    let d = ap length (e ∙ ap (λ n. drop n (c ∷ bs)) r) in
    omega (arith, skip_le more, d, length-drop (run bs) bs)
