-- Buttons that are noted in turn, and their labels.
use Rattle.std.proofs.Common.{◌≡◌, ℕ, zero, suc, ◌<◌, List, [], ◌∷◌, ◌++◌, length, get_or, Some, unwrap_or, sym, refl, ap, ◌∙◌, arith}
use Rattle.names.specs.Places.{Name, place, noted, noted_all}
use Rattle.names.proofs.Placed.{place_noted}
use Rattle.names.proofs.Turns.{noted_all_append, noted_place}
use Rattle.beside.specs.Asks.{labels, Noting}
use Rattle.beside.specs.Joined.{label_of}

labels_push : (all ns : List Name) (m : Name) → labels all (ns ++ (m ∷ [])) ≡ labels all ns ++ (label_of (noted (noted_all all ns) m) m ∷ [])
labels_push all [] m = refl
labels_push all (n ∷ ns) m = ap (λ ls. label_of (noted all n) n ∷ ls) (labels_push (noted all n) ns m)

pub noting_more : (start ns all : List Name) (ls : List ℕ) (m : Name) (after : List Name) (i : ℕ) → Noting start ns all ls → after ≡ noted all m → place after m ≡ Some i → Noting start (ns ++ (m ∷ [])) after (ls ++ (i ∷ []))
noting_more start ns all ls m after i old e p =
    let now : after ≡ noted (noted_all start ns) m = e ∙ ap (λ l. noted l m) old.table in
    let here : i ≡ label_of (noted (noted_all start ns) m) m = sym (ap (λ o. unwrap_or o 0) p) ∙ ap (λ l. label_of l m) now in
    record {
      table = now ∙ sym (noted_all_append start ns (m ∷ []));
      given = ap (λ l. l ++ (i ∷ [])) old.given ∙ ap (λ k. labels start ns ++ (k ∷ [])) here ∙ sym (labels_push start ns m);
    }

-- a place stays where more names are noted
stays : (xs ms : List Name) (n : Name) (i : ℕ) → place xs n ≡ Some i → place (noted_all xs ms) n ≡ Some i
stays xs [] n i e = e
stays xs (m ∷ ms) n i e = stays (noted xs m) ms n i (place_noted xs m n i e)

pub length_labels : (start ns : List Name) → length (labels start ns) ≡ length ns
length_labels start [] = refl
length_labels start (n ∷ ns) = ap suc (length_labels (noted start n) ns)

-- the label that was given to a name is its place for good
pub labels_at : (start ns more : List Name) (j : ℕ) → j < length ns → (i : ℕ) × (get_or (labels start ns) j 0 ≡ i) × (place (noted_all (noted_all start ns) more) (get_or ns j []) ≡ Some i)
labels_at start [] more j h = absurd (omega arith)
labels_at start (n ∷ ns) more zero h =
    let p = noted_place start n in
    (p.0, ap (λ o. unwrap_or o 0) p.1, stays (noted_all (noted start n) ns) more n p.0 (stays (noted start n) ns n p.0 p.1))
labels_at start (n ∷ ns) more (suc j) h = labels_at (noted start n) ns more j (omega arith)
