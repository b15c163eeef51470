-- What is written, piece by piece.
use Rattle.std.proofs.Common.{◌≡◌, ℕ, ◌+◌, ◌<◌, List, [], ◌∷◌, ◌++◌, length, get_or, take, decimal, sym, refl, ap, ◌∙◌, append-nil}
use Rattle.std.proofs.lemmas.List.{take_more, append_assoc}
use Rattle.query.specs.Answers.{after_blanks}

pub after_blanks_append : (xs ys : List ℕ) → after_blanks (xs ++ ys) ≡ after_blanks xs ++ after_blanks ys
after_blanks_append [] ys = refl
after_blanks_append (x ∷ xs) ys = ap (λ l. (32 ∷ decimal x) ++ l) (after_blanks_append xs ys) ∙ sym (append_assoc (32 ∷ decimal x) (after_blanks xs) (after_blanks ys))

pub after_blanks_more : (ws : List ℕ) (i : ℕ) → i < length ws → after_blanks (take (i + 1) ws) ≡ after_blanks (take i ws) ++ (32 ∷ decimal (get_or ws i 0))
after_blanks_more ws i h = ap after_blanks (take_more ws i 0 h) ∙ after_blanks_append (take i ws) (get_or ws i 0 ∷ []) ∙ ap (λ l. after_blanks (take i ws) ++ l) (append-nil (32 ∷ decimal (get_or ws i 0)))
