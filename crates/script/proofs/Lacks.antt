-- Tests that hold, and lists that lack a byte.
use Rattle.std.proofs.Common.{◌≡◌, ℕ, zero, suc, ◌<◌, Bool, true, false, not, ◌&&◌, T, eqb, List, [], ◌∷◌, ◌++◌, length, drop, sym, refl, ◌∙◌, arith}
use Rattle.std.proofs.lemmas.Bool.{false≢true, eq-eqb, not-true, cond_both}
use Rattle.script.specs.Grammar.{gap, skip}
use Rattle.script.specs.Printed.{lacks, writable}
use Rattle.script.proofs.Cuts.{NoQuote}

pub holds_is : (b : Bool) → T b → b ≡ true
holds_is true h = refl
holds_is false h = absurd h

pub and_0 : (a b : Bool) → T (a && b) → T a
and_0 true b h = tt
and_0 false b h = absurd h

pub and_1 : (a b : Bool) → T (a && b) → T b
and_1 true b h = h
and_1 false b h = absurd h

pub and_in : (a b : Bool) → T a → T b → T (a && b)
and_in true b h k = k
and_in false b h k = absurd h

pub lacks_append : (c : ℕ) (xs ys : List ℕ) → T (lacks c xs) → T (lacks c ys) → T (lacks c (xs ++ ys))
lacks_append c [] ys h k = k
lacks_append c (x ∷ xs) ys h k = and_in (not (eqb x c)) (lacks c (xs ++ ys)) (and_0 (not (eqb x c)) (lacks c xs) h) (lacks_append c xs ys (and_1 (not (eqb x c)) (lacks c xs) h) k)

pub lacks_drop : (c n : ℕ) (xs : List ℕ) → T (lacks c xs) → T (lacks c (drop n xs))
lacks_drop c zero xs h = h
lacks_drop c (suc n) [] h = h
lacks_drop c (suc n) (x ∷ xs) h = lacks_drop c n xs (and_1 (not (eqb x c)) (lacks c xs) h)

pub lacks_skip : (c : ℕ) (xs : List ℕ) → T (lacks c xs) → T (lacks c (skip xs))
lacks_skip c [] h = h
lacks_skip c (x ∷ xs) h = cond_both (gap x) (skip xs) (x ∷ xs) (λ l. T (lacks c l)) (λ _. lacks_skip c xs (and_1 (not (eqb x c)) (lacks c xs) h)) (λ _. h)

-- a list that lacks the quote, by places
pub no_quote : (xs : List ℕ) → T (lacks 34 xs) → NoQuote xs
no_quote [] h i l e = omega arith
no_quote (x ∷ xs) h zero l e =
    let f = not-true (eqb x 34) (holds_is (not (eqb x 34)) (and_0 (not (eqb x 34)) (lacks 34 xs) h)) in
    false≢true (sym f ∙ eq-eqb x 34 e)
no_quote (x ∷ xs) h (suc i) l e = no_quote xs (and_1 (not (eqb x 34)) (lacks 34 xs) h) i (omega arith) e

pub writable_lacks : (n : List ℕ) → T (writable n) → T (lacks 34 n) × T (lacks 10 n)
writable_lacks [] h = absurd h
writable_lacks (c ∷ n) h = (and_0 (lacks 34 (c ∷ n)) (lacks 10 (c ∷ n)) h, and_1 (lacks 34 (c ∷ n)) (lacks 10 (c ∷ n)) h)

pub writable_from : (n : List ℕ) → 0 < length n → T (lacks 34 n) → T (lacks 10 n) → T (writable n)
writable_from [] l h k = absurd (omega arith)
writable_from (c ∷ n) l h k = and_in (lacks 34 (c ∷ n)) (lacks 10 (c ∷ n)) h k
