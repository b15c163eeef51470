-- What a step of Names does, as its code sees it.
use Rattle.std.proofs.Common.{◌≡◌, ℕ, ◌<◌, Bool, true, false, cond, ltb, List, [], ◌∷◌, ◌++◌, map, length, get_or, Some, None, vec_items, string_bytes, Option, Vec, String, sym, refl, ap, ◌∙◌, subst, arith}
use Rattle.std.specs.BTreeMap.{BTreeMap}
use Rattle.std.specs.BTreeMap.{IsEmpty, Updates, get_by_text, is_at}
use Rattle.std.specs.Map.{lookup}
use Rattle.std.specs.Str.{bytes_eq as same_text}
use Rattle.std.specs.Cmp.Lexicographic.{bytes_decides}
use Rattle.std.specs.List.{slice_get}
use Rattle.std.proofs.lemmas.Map.Text.{btree_map_updates_text, text_cmp}
use Rattle.std.proofs.lemmas.List.{get_or-map, length-map}
use Rattle.std.proofs.lemmas.Option.{slice_get-get_or, slice_get_past}
use Rattle.std.proofs.lemmas.Bool.{ltb-true, ltb-false, both_ways, false_from_ne_true}
use Rattle.names.specs.Places.{Name, place, Distinct}
use Rattle.names.specs.Table.{texts, coded, Apart, Agrees}
use Rattle.names.proofs.Placed.{or_else, place_own, place_push, place_new, distinct_push}
use Rattle.std.specs.String.{string_cmp}

coded_same : (o p : Option ℕ) → coded o ≡ coded p → o ≡ p
coded_same None None e = refl
coded_same None (Some j) e = absurd (omega arith)
coded_same (Some i) None e = absurd (omega arith)
coded_same (Some i) (Some j) e = let same : i ≡ j = omega arith in ap Some same

module _ {Y V : Type 0} (list : Vec (String Y) V) where
  pub distinct_from : Apart list → Distinct (texts list)
  distinct_from h i j hi hj e = omega (arith, h i hi, h j hj, ap (λ n. coded (place (texts list) n)) e)

module _ {Y V : Type 0} (list : Vec (String Y) V) (numbers : BTreeMap (String Y) ℕ) where
  -- what a table owes
  pub record Kept : Type 0 where
    pub apart : Apart list
    pub agrees : Agrees list numbers

  pub agrees_from : Agrees list numbers → (n : Name) → get_by_text numbers n ≡ place (texts list) n
  agrees_from h n = coded_same (get_by_text numbers n) (place (texts list) n) (h n)

  kept : Distinct (texts list) → ((n : Name) → get_by_text numbers n ≡ place (texts list) n) → Kept
  kept d a = record { apart = λ i h. ap coded (place_own (texts list) i d h); agrees = λ n. ap coded (a n) }

  pub none_yet : vec_items list ≡ [] → IsEmpty numbers → Kept
  unfolding place
  none_yet ls es =
      kept (λ i j h. absurd (omega (arith, subst (λ l. i < length (map string_bytes l)) ls h)))
      (λ n. ap (λ l. lookup (is_at (text_cmp n)) l) es ∙ ap (λ l. place (map string_bytes l) n) (sym ls))

module _ {Z : Type 0} where
  pub named_at : (xs ys : List (String Z)) (i : ℕ) (s : String Z) → ys ≡ xs → true ≡ ltb i (length ys) → s ≡ get_or ys i s → Some (string_bytes s) ≡ slice_get (map string_bytes xs) i
  named_at xs ys i s e t h =
      let l : i < length xs = subst (λ zs. i < length zs) e (ltb-true i (length ys) (sym t)) in
      let m : i < length (map string_bytes xs) = subst (λ k. i < k) (sym (length-map xs string_bytes)) l in
      ap (λ u. Some (string_bytes u)) (h ∙ ap (λ zs. get_or zs i s) e) ∙ ap Some (sym (get_or-map string_bytes xs i s [] l)) ∙ sym (slice_get-get_or (map string_bytes xs) i [] m)

  pub named_past : (xs ys : List (String Z)) (i : ℕ) → ys ≡ xs → false ≡ ltb i (length ys) → None ≡ slice_get (map string_bytes xs) i
  named_past xs ys i e t =
      let l = ltb-false i (length ys) (sym t) in
      let m = ap length e in
      sym (slice_get_past (map string_bytes xs) i (omega (arith, length-map xs string_bytes)))

agree_at : (xs : List Name) (n q : Name) (b : Bool) → same_text n q ≡ b → place xs n ≡ None → cond b (Some (length xs)) (place xs q) ≡ place (xs ++ (n ∷ [])) q
agree_at xs n q true t e = subst (λ m. Some (length xs) ≡ place (xs ++ (n ∷ [])) m) ((bytes_decides n q).0 t) (sym (place_new xs n e))
agree_at xs n q false t e = by (place xs q) ∙ sym (place_push xs n q ∙ ap (λ c. or_else (place xs q) (cond c (Some (length xs)) None)) other)
  where
    other : same_text q n ≡ false
    other = false_from_ne_true (same_text q n) (λ s. both_ways (same_text n q) t ((bytes_decides n q).1 (sym ((bytes_decides q n).0 s))))

    by : (o : Option ℕ) → o ≡ or_else o None
    by None = refl
    by (Some i) = refl

-- a new name goes at the end
pub grown : {Y V : Type 0} (list more : Vec (String Y) V) (numbers new : BTreeMap (String Y) ℕ) (key : String Y) → Apart list → Agrees list numbers → place (texts list) (string_bytes key) ≡ None → texts more ≡ texts list ++ (string_bytes key ∷ []) → Updates string_cmp numbers new key (Some (length (texts list))) → Kept more new
grown list more numbers new key apart old e ls sets =
    let n = string_bytes key in
    kept more new (subst Distinct (sym ls) (distinct_push (texts list) n (distinct_from list apart) e))
    (λ q.
    btree_map_updates_text n numbers new (Some (length (texts list))) sets q
    ∙ ap (λ o. cond (same_text n q) (Some (length (texts list))) o) (agrees_from list numbers old q)
    ∙ agree_at (texts list) n q (same_text n q) refl e ∙ ap (λ l. place l q) (sym ls))
