-- Lemmas on names that are noted in turn.
use Rattle.std.proofs.Common.{◌≡◌, ℕ, ◌<◌, ◌≤◌, List, [], ◌∷◌, ◌++◌, length, get_or, Some, None, Option, unwrap_or, sym, refl, ap, ◌∙◌, subst, append_assoc, arith}
use Rattle.std.specs.List.{AllByRecursion as All}
use Rattle.std.proofs.lemmas.List.{length_push, length-append, get_or_append_left, get_or_at, append-nil}
use Rattle.names.specs.Places.{Name, place, noted, noted_all, Distinct}
use Rattle.names.proofs.Placed.{place_at, place_new, distinct_push, noted_there, noted_new}

pub noted_all_append : (xs ns ms : List Name) → noted_all xs (ns ++ ms) ≡ noted_all (noted_all xs ns) ms
noted_all_append xs [] ms = refl
noted_all_append xs (n ∷ ns) ms = noted_all_append (noted xs n) ns ms

pub distinct_none : Distinct []
distinct_none i j h k e = omega arith

-- what holds where a name is there already, and where it goes at the end
pub noted_either : (P : List Name → Type 0) (xs : List Name) (n : Name) → ((i : ℕ) → place xs n ≡ Some i → P xs) → (place xs n ≡ None → P (xs ++ (n ∷ []))) → P (noted xs n)
noted_either P xs n there new = by (place xs n) refl
  where
    by : (o : Option ℕ) → place xs n ≡ o → P (noted xs n)
    by None e = subst P (sym (noted_new xs n e)) (new e)
    by (Some i) e = subst P (sym (noted_there xs n i e)) (there i e)

pub distinct_noted : (xs : List Name) (n : Name) → Distinct xs → Distinct (noted xs n)
distinct_noted xs n d = noted_either Distinct xs n (λ i e. d) (λ e. distinct_push xs n d e)

pub distinct_noted_all : (xs ns : List Name) → Distinct xs → Distinct (noted_all xs ns)
distinct_noted_all xs [] d = d
distinct_noted_all xs (n ∷ ns) d = distinct_noted_all (noted xs n) ns (distinct_noted xs n d)

-- ys begins with xs
pub record Extends (xs ys : List Name) : Type 0 where
  pub longer : length xs ≤ length ys
  pub kept : (i : ℕ) → i < length xs → get_or ys i [] ≡ get_or xs i []

pub extends_same : (xs : List Name) → Extends xs xs
extends_same xs = record { longer = omega arith; kept = λ i h. refl }

pub extends_noted : (xs : List Name) (n : Name) → Extends xs (noted xs n)
extends_noted xs n = noted_either (Extends xs) xs n (λ i e. extends_same xs) (λ e. record {
  longer = omega (arith, length_push xs n);
  kept = λ i h. get_or_append_left xs (n ∷ []) [] i h;
})

pub extends_then : (xs ys zs : List Name) → Extends xs ys → Extends ys zs → Extends xs zs
extends_then xs ys zs a b = record { longer = omega (arith, a.longer, b.longer); kept = λ i h. b.kept i (omega (arith, a.longer)) ∙ a.kept i h }

-- a name that was noted has a place
pub noted_place : (xs : List Name) (n : Name) → (i : ℕ) × (place (noted xs n) n ≡ Some i)
noted_place xs n = noted_either (λ l. (i : ℕ) × (place l n ≡ Some i)) xs n (λ i e. (i, e)) (λ e. (length xs, place_new xs n e))

-- the number that stands for a name that has a place
pub known : (xs : List Name) (n : Name) (i : ℕ) → place xs n ≡ Some i → (unwrap_or (place xs n) 0 < length xs) × (get_or xs (unwrap_or (place xs n) 0) [] ≡ n)
known xs n i e =
    let at = place_at xs n i e in
    subst (λ o. (unwrap_or o 0 < length xs) × (get_or xs (unwrap_or o 0) [] ≡ n)) (sym e) (at.0, at.1)

-- what is there stays so
pub noted_known : (xs ns : List Name) → All (λ n. (i : ℕ) × (place xs n ≡ Some i)) ns → noted_all xs ns ≡ xs
noted_known xs [] a = refl
noted_known xs (n ∷ ns) a = ap (λ l. noted_all l ns) (noted_there xs n a.0.0 a.0.1) ∙ noted_known xs ns a.1

-- distinct names, noted in turn
pub noted_own : (xs ys : List Name) → Distinct (xs ++ ys) → noted_all xs ys ≡ xs ++ ys
noted_own xs [] d = sym (append-nil xs)
noted_own xs (y ∷ ys) d =
    let e = append_assoc xs (y ∷ []) ys in
    ap (λ l. noted_all l ys) (noted_new xs y (new (place xs y) refl)) ∙ noted_own (xs ++ (y ∷ [])) ys (subst Distinct (sym e) d) ∙ e
  where
    new : (o : Option ℕ) → place xs y ≡ o → place xs y ≡ None
    new None e = e
    new (Some i) e =
        let at = place_at xs y i e in
        let l = length-append xs (y ∷ ys) in
        let same = d i (length xs) (omega (arith, at.0)) (omega arith) (get_or_append_left xs (y ∷ ys) [] i at.0 ∙ at.1 ∙ sym (get_or_at xs y ys [] (length xs) refl)) in
        absurd (omega (arith, at.0))
