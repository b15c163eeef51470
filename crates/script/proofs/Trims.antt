-- What is left where white space is cut off the front.
use Rattle.std.proofs.Common.{◌≡◌, ℕ, zero, suc, ◌+◌, ◌<◌, ◌≤◌, Bool, true, false, List, [], ◌∷◌, length, get_or, drop, IsUtf8, sym, refl, ap, ◌∙◌, subst, arith, inl, inr}
use Rattle.std.specs.Str.{IsCharBoundary}
use Rattle.std.proofs.lemmas.Bool.{cases_lt, cond-true, cond-false}
use Rattle.std.proofs.lemmas.Bool.Decides.{nat_tests}
use Rattle.std.proofs.lemmas.List.{drop_more, drop_all}
use Rattle.std.proofs.lemmas.Str.{IsCharBoundary-start, IsCharBoundary-after_ascii}
use Rattle.script.specs.Grammar.{gap, skip}

-- n bytes of white space stand in front
abbrev pub Gaps : List ℕ → ℕ → Type 0
Gaps bs n = (k : ℕ) → k < n → gap (get_or bs k 0) ≡ true

-- white space is ASCII, so a text may be cut behind it
pub cut_behind : (bs : List ℕ) (n : ℕ) → IsUtf8 bs → n ≤ length bs → Gaps bs n → IsCharBoundary bs n
cut_behind bs zero u h g = IsCharBoundary-start bs u
cut_behind bs (suc n) u h g =
    let here : gap (get_or bs n 0) ≡ true = g n (omega arith) in
    let low : get_or bs n 0 < 128 = grind (arith, nat_tests) in
    subst (IsCharBoundary bs) (omega arith) (IsCharBoundary-after_ascii bs n u (omega arith) low)

-- white space in front is skipped
skip_front : (bs : List ℕ) (n : ℕ) → n ≤ length bs → Gaps bs n → skip (drop n bs) ≡ skip bs
skip_front bs zero h g = refl
skip_front bs (suc n) h g =
    let here : gap (get_or bs n 0) ≡ true = g n (omega arith) in
    let next : n + 1 ≡ suc n = omega arith in
    let one : skip (drop n bs) ≡ skip (drop (suc n) bs) = ap skip (drop_more bs n 0 (omega arith)) ∙ cond-true (gap (get_or bs n 0)) _ _ here ∙ ap (λ m. skip (drop m bs)) next in
    sym one ∙ skip_front bs n (omega arith) (λ k l. g k (omega arith))

-- where none follows, nothing is skipped
skip_end : (bs : List ℕ) (n : ℕ) → n ≤ length bs → (n < length bs → gap (get_or bs n 0) ≡ false) → skip (drop n bs) ≡ drop n bs
skip_end bs n h e = elim (cases_lt n (length bs)) [
  | inl l ↦ ap skip (drop_more bs n 0 l) ∙ cond-false (gap (get_or bs n 0)) _ _ (e l) ∙ sym (drop_more bs n 0 l)
  | inr l ↦ ap skip (drop_all n bs l) ∙ sym (drop_all n bs l)
]

pub trimmed : (bs : List ℕ) (n : ℕ) → n ≤ length bs → Gaps bs n → (n < length bs → gap (get_or bs n 0) ≡ false) → drop n bs ≡ skip bs
trimmed bs n h g e = sym (skip_end bs n h e) ∙ skip_front bs n h g
