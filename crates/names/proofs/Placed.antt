-- Lemmas on the places of names.
use Rattle.std.proofs.Common.{◌≡◌, ℕ, zero, suc, ◌+◌, ◌<◌, ◌≤◌, Bool, true, false, cond, ◌⊎◌, List, [], ◌∷◌, ◌++◌, length, get_or, Some, None, Option, sym, refl, ap, ◌∙◌, subst, inl, inr, arith}
use Rattle.std.specs.Str.{bytes_eq as same_text}
use Rattle.std.specs.Cmp.Lexicographic.{bytes_decides}
use Rattle.std.specs.Option.{option_map}
use Rattle.std.proofs.lemmas.List.{length_push, get_or_push, get_or_append_left}
use Rattle.std.proofs.lemmas.Bool.{both_ways, cases_lt}
use Rattle.names.specs.Places.{Name, place, added, noted, Distinct}

abbrev At : List Name → Name → ℕ → Type 0
At xs n i = (i < length xs) × (get_or xs i [] ≡ n)

at_next : (x : Name) (xs : List Name) (n : Name) (o : Option ℕ) (i : ℕ) → ((j : ℕ) → o ≡ Some j → At xs n j) → option_map suc o ≡ Some i → At (x ∷ xs) n i
at_next x xs n None i f h = let z : ◌≡◌ {A = ℕ} 0 1 = cc in absurd (omega arith)
at_next x xs n (Some j) i f h =
    let k : suc j ≡ i = cc in
    let here = f j refl in
    subst (λ m. At (x ∷ xs) n m) k (omega (arith, here.0), here.1)

at_first : (x : Name) (xs : List Name) (n : Name) (b : Bool) (o : Option ℕ) (i : ℕ) → same_text n x ≡ b → ((j : ℕ) → o ≡ Some j → At xs n j) → cond b (Some 0) (option_map suc o) ≡ Some i → At (x ∷ xs) n i
at_first x xs n true o i t f h =
    let k : 0 ≡ i = cc in
    subst (λ m. At (x ∷ xs) n m) k (omega arith, sym ((bytes_decides n x).0 t))
at_first x xs n false o i t f h = at_next x xs n o i f h

-- a place is within the list, and the name stands there
pub place_at : (xs : List Name) (n : Name) (i : ℕ) → place xs n ≡ Some i → (i < length xs) × (get_or xs i [] ≡ n)
unfolding place
place_at [] n i e = let z : ◌≡◌ {A = ℕ} 0 1 = cc in absurd (omega arith)
place_at (x ∷ xs) n i e = at_first x xs n (same_text n x) (place xs n) i refl (λ j q. place_at xs n j q) e

abbrev Absent : List Name → Name → Type 0
Absent xs n = (i : ℕ) → i < length xs → get_or xs i [] ≡ n → ⊥

absent_next : (x : Name) (xs : List Name) (n : Name) → (x ≡ n → ⊥) → Absent xs n → Absent (x ∷ xs) n
absent_next x xs n f g zero h e = f e
absent_next x xs n f g (suc i) h e = g i (omega arith) e

absent_first : (x : Name) (xs : List Name) (n : Name) (b : Bool) (o : Option ℕ) → same_text n x ≡ b → (o ≡ None → Absent xs n) → cond b (Some 0) (option_map suc o) ≡ None → Absent (x ∷ xs) n
absent_first x xs n true o t f h = let z : ◌≡◌ {A = ℕ} 0 1 = cc in absurd (omega arith)
absent_first x xs n false None t f h = absent_next x xs n (λ e. both_ways (same_text n x) t ((bytes_decides n x).1 (sym e))) (f refl)
absent_first x xs n false (Some j) t f h = let z : ◌≡◌ {A = ℕ} 0 1 = cc in absurd (omega arith)

-- a name without a place stands nowhere
pub place_none : (xs : List Name) (n : Name) → place xs n ≡ None → (i : ℕ) → i < length xs → get_or xs i [] ≡ n → ⊥
unfolding place
place_none [] n e i h q = omega arith
place_none (x ∷ xs) n e i h q = absent_first x xs n (same_text n x) (place xs n) refl (λ r j k t. place_none xs n r j k t) e i h q

-- among distinct names each has its own place
pub place_own : (xs : List Name) (i : ℕ) → Distinct xs → i < length xs → place xs (get_or xs i []) ≡ Some i
place_own xs i d h = by (place xs (get_or xs i [])) refl
  where
    by : (o : Option ℕ) → place xs (get_or xs i []) ≡ o → o ≡ Some i
    by None e = absurd (place_none xs (get_or xs i []) e i h refl)
    by (Some j) e = let at = place_at xs (get_or xs i []) j e in ap Some (d j i at.0 h at.1)

-- a name that stands somewhere has a place
pub place_some : (xs : List Name) (i : ℕ) → i < length xs → (k : ℕ) × (place xs (get_or xs i []) ≡ Some k)
place_some xs i h = by (place xs (get_or xs i [])) refl
  where
    by : (o : Option ℕ) → place xs (get_or xs i []) ≡ o → (k : ℕ) × (place xs (get_or xs i []) ≡ Some k)
    by None e = absurd (place_none xs (get_or xs i []) e i h refl)
    by (Some j) e = (j, e)

abbrev pub or_else : Option ℕ → Option ℕ → Option ℕ
or_else None o = o
or_else (Some i) o = Some i

push_first : (b d : Bool) (o p : Option ℕ) (k : ℕ) → p ≡ or_else o (cond d (Some k) None) → cond b (Some 0) (option_map suc p) ≡ or_else (cond b (Some 0) (option_map suc o)) (cond d (Some (suc k)) None)
push_first true d o p k e = refl
push_first false true None p k e = ap (option_map suc) e
push_first false false None p k e = ap (option_map suc) e
push_first false d (Some j) p k e = ap (option_map suc) e

push_only : (b : Bool) → cond b (Some 0) (option_map suc None) ≡ cond b (Some 0) None
push_only true = refl
push_only false = refl

-- places in a list with one more name
pub place_push : (xs : List Name) (m n : Name) → place (xs ++ (m ∷ [])) n ≡ or_else (place xs n) (cond (same_text n m) (Some (length xs)) None)
unfolding place
place_push [] m n = push_only (same_text n m)
place_push (x ∷ xs) m n = push_first (same_text n x) (same_text n m) (place xs n) (place (xs ++ (m ∷ [])) n) (length xs) (place_push xs m n)

-- a place stays where a name is added at the end
pub place_kept : (xs : List Name) (m n : Name) (i : ℕ) → place xs n ≡ Some i → place (xs ++ (m ∷ [])) n ≡ Some i
place_kept xs m n i e = place_push xs m n ∙ ap (λ o. or_else o (cond (same_text n m) (Some (length xs)) None)) e

-- a new name's place is the end
pub place_new : (xs : List Name) (n : Name) → place xs n ≡ None → place (xs ++ (n ∷ [])) n ≡ Some (length xs)
place_new xs n e =
    place_push xs n n ∙ ap (λ o. or_else o (cond (same_text n n) (Some (length xs)) None)) e
    ∙ ap (λ b. cond b (Some (length xs)) None) ((bytes_decides n n).1 refl)

-- distinct names, and a new one
pub distinct_push : (xs : List Name) (n : Name) → Distinct xs → place xs n ≡ None → Distinct (xs ++ (n ∷ []))
distinct_push xs n d e i j hi hj q = by (cases_lt i (length xs)) (cases_lt j (length xs))
  where
    len : length (xs ++ (n ∷ [])) ≡ length xs + 1
    len = length_push xs n

    old : (k : ℕ) → k < length xs → get_or (xs ++ (n ∷ [])) k [] ≡ get_or xs k []
    old k h = get_or_append_left xs (n ∷ []) [] k h

    new : (k : ℕ) → length xs ≡ k → get_or (xs ++ (n ∷ [])) k [] ≡ n
    new k h = get_or_push xs n [] k h

    by : (i < length xs) ⊎ (length xs ≤ i) → (j < length xs) ⊎ (length xs ≤ j) → i ≡ j
    by (inl a) (inl b) = d i j a b (sym (old i a) ∙ q ∙ old j b)
    by (inl a) (inr b) = absurd (place_none xs n e i a (sym (old i a) ∙ q ∙ new j (omega (arith, len, hj))))
    by (inr a) (inl b) = absurd (place_none xs n e j b (sym (old j b) ∙ sym q ∙ new i (omega (arith, len, hi))))
    by (inr a) (inr b) = omega (arith, len, hi, hj)

-- what is noted where it stands, and where it is new
pub noted_there : (xs : List Name) (n : Name) (i : ℕ) → place xs n ≡ Some i → noted xs n ≡ xs
unfolding noted
noted_there xs n i e = ap (λ o. added o xs n) e

pub noted_new : (xs : List Name) (n : Name) → place xs n ≡ None → noted xs n ≡ xs ++ (n ∷ [])
unfolding noted
noted_new xs n e = ap (λ o. added o xs n) e

-- a place stays where another name is noted
pub place_noted : (xs : List Name) (m n : Name) (i : ℕ) → place xs n ≡ Some i → place (noted xs m) n ≡ Some i
place_noted xs m n i e = by (place xs m) refl
  where
    by : (o : Option ℕ) → place xs m ≡ o → place (noted xs m) n ≡ Some i
    by None h = ap (λ l. place l n) (noted_new xs m h) ∙ place_kept xs m n i e
    by (Some j) h = ap (λ l. place l n) (noted_there xs m j h) ∙ e
