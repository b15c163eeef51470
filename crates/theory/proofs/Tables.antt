-- Finite tables of pairs: a relation that is a test and keeps within two lists of states has one.
use Rattle.std.proofs.Common.{◌≡◌, ℕ, zero, suc, ◌<◌, Bool, true, false, ◌&&◌, ◌||◌, T, eqb, ◌⊎◌, List, [], ◌∷◌, sym, subst, inl, inr, arith, eqb→eq}
use lib.Dec.{eqb_refl}
use Rattle.lts.specs.Machine.{Machine}
use Rattle.lts.specs.Bisimulation.{Bisimulation, Bisimilar, in_table}
use Rattle.theory.proofs.Bools.{T-or_not, not_both, and_in, and_0, and_1, or_0, or_1, or_out}

-- some number of the list passes
abbrev pub any_of : List ℕ → (ℕ → Bool) → Bool
any_of [] f = false
any_of (x ∷ xs) f = f x || any_of xs f

-- some number passes: which
pub any_of_out : (xs : List ℕ) (f : ℕ → Bool) → T (any_of xs f) → (x : ℕ) × T (any_of xs (eqb x)) × T (f x)
any_of_out [] f h = absurd h
any_of_out (x ∷ xs) f h = elim (or_out (f x) (any_of xs f) h) [
  | inl g ↦ (x, or_0 (eqb x x) (any_of xs (eqb x)) (eqb_refl x), g)
  | inr g ↦ let w = any_of_out xs f g in (w.0, or_1 (eqb w.0 x) (any_of xs (eqb w.0)) w.1, w.2)
]

-- a number of the list that passes
pub any_of_in : (xs : List ℕ) (f : ℕ → Bool) (x : ℕ) → T (any_of xs (eqb x)) → T (f x) → T (any_of xs f)
any_of_in [] f x h g = h
any_of_in (y ∷ xs) f x h g = elim (or_out (eqb x y) (any_of xs (eqb x)) h) [
  | inl p ↦ or_0 (f y) (any_of xs f) (subst (λ z. T (f z)) (eqb→eq x y p) g)
  | inr p ↦ or_1 (f y) (any_of xs f) (any_of_in xs f x p g)
]

-- the numbers below n
abbrev pub below : ℕ → List ℕ
below zero = []
below (suc n) = n ∷ below n

-- those below n are among them
pub in_below : (n x : ℕ) → x < n → T (any_of (below n) (eqb x))
in_below zero x h = absurd (omega arith)
in_below (suc n) x h = elim (T-or_not (eqb x n)) [
  | inl g ↦ or_0 (eqb x n) (any_of (below n) (eqb x)) g
  | inr g ↦ or_1 (eqb x n) (any_of (below n) (eqb x)) (in_below n x (let ne : x ≡ n → ⊥ = λ e. not_both (eqb x n) (subst (λ y. T (eqb x y)) e (eqb_refl x)) g in omega arith))
]

-- a pair put before a table, if the test passes
abbrev put_if : Bool → ℕ → ℕ → List ℕ → List ℕ
put_if true x y ps = x ∷ y ∷ ps
put_if false x y ps = ps

-- the pairs of x with those of ys that pass, before a table
abbrev row : ℕ → List ℕ → (ℕ → ℕ → Bool) → List ℕ → List ℕ
row x [] f ps = ps
row x (y ∷ ys) f ps = put_if (f x y) x y (row x ys f ps)

-- the pairs of two lists that pass
abbrev pub pairs : List ℕ → List ℕ → (ℕ → ℕ → Bool) → List ℕ
pairs [] ys f = []
pairs (x ∷ xs) ys f = row x ys f (pairs xs ys f)

put_out : (b : Bool) (x y s t : ℕ) (ps : List ℕ) → T (in_table (put_if b x y ps) s t) → (T b × (x ≡ s) × (y ≡ t)) ⊎ T (in_table ps s t)
put_out true x y s t ps h = elim (or_out (eqb x s && eqb y t) (in_table ps s t) h) [
  | inl g ↦ inl (tt, eqb→eq x s (and_0 (eqb x s) (eqb y t) g), eqb→eq y t (and_1 (eqb x s) (eqb y t) g))
  | inr g ↦ inr g
]
put_out false x y s t ps h = inr h

put_new : (b : Bool) (x y : ℕ) (ps : List ℕ) → T b → T (in_table (put_if b x y ps) x y)
put_new true x y ps h = or_0 (eqb x x && eqb y y) (in_table ps x y) (and_in (eqb x x) (eqb y y) (eqb_refl x) (eqb_refl y))
put_new false x y ps h = absurd h

put_old : (b : Bool) (x y s t : ℕ) (ps : List ℕ) → T (in_table ps s t) → T (in_table (put_if b x y ps) s t)
put_old true x y s t ps h = or_1 (eqb x s && eqb y t) (in_table ps s t) h
put_old false x y s t ps h = h

row_out : (x : ℕ) (ys : List ℕ) (f : ℕ → ℕ → Bool) (ps : List ℕ) (s t : ℕ) → T (in_table (row x ys f ps) s t) → T (f s t) ⊎ T (in_table ps s t)
row_out x [] f ps s t h = inr h
row_out x (y ∷ ys) f ps s t h = elim (put_out (f x y) x y s t (row x ys f ps) h) [
  | inl g ↦ inl (subst (λ v. T (f s v)) g.2 (subst (λ u. T (f u y)) g.1 g.0))
  | inr g ↦ row_out x ys f ps s t g
]

row_new : (x : ℕ) (ys : List ℕ) (f : ℕ → ℕ → Bool) (ps : List ℕ) (t : ℕ) → T (any_of ys (eqb t)) → T (f x t) → T (in_table (row x ys f ps) x t)
row_new x [] f ps t h g = absurd h
row_new x (y ∷ ys) f ps t h g = elim (or_out (eqb t y) (any_of ys (eqb t)) h) [
  | inl p ↦ let e = eqb→eq t y p in subst (λ v. T (in_table (put_if (f x y) x y (row x ys f ps)) x v)) (sym e) (put_new (f x y) x y (row x ys f ps) (subst (λ v. T (f x v)) e g))
  | inr p ↦ put_old (f x y) x y x t (row x ys f ps) (row_new x ys f ps t p g)
]

row_old : (x : ℕ) (ys : List ℕ) (f : ℕ → ℕ → Bool) (ps : List ℕ) (s t : ℕ) → T (in_table ps s t) → T (in_table (row x ys f ps) s t)
row_old x [] f ps s t h = h
row_old x (y ∷ ys) f ps s t h = put_old (f x y) x y s t (row x ys f ps) (row_old x ys f ps s t h)

-- what stands in the table passes
pub pairs_out : (xs ys : List ℕ) (f : ℕ → ℕ → Bool) (s t : ℕ) → T (in_table (pairs xs ys f) s t) → T (f s t)
pairs_out [] ys f s t h = absurd h
pairs_out (x ∷ xs) ys f s t h = elim (row_out x ys f (pairs xs ys f) s t h) [
  | inl g ↦ g
  | inr g ↦ pairs_out xs ys f s t g
]

-- what is of the lists and passes stands in it
pub pairs_in : (xs ys : List ℕ) (f : ℕ → ℕ → Bool) (s t : ℕ) → T (any_of xs (eqb s)) → T (any_of ys (eqb t)) → T (f s t) → T (in_table (pairs xs ys f) s t)
pairs_in [] ys f s t h g p = absurd h
pairs_in (x ∷ xs) ys f s t h g p = elim (or_out (eqb s x) (any_of xs (eqb s)) h) [
  | inl q ↦ let e = eqb→eq s x q in subst (λ u. T (in_table (row x ys f (pairs xs ys f)) u t)) (sym e) (row_new x ys f (pairs xs ys f) t g (subst (λ u. T (f u t)) e p))
  | inr q ↦ row_old x ys f (pairs xs ys f) s t (pairs_in xs ys f s t q g p)
]

-- a state that a table names first stands in it
pub table_first : (ps : List ℕ) (s t : ℕ) → T (in_table ps s t) → T (any_of ps (eqb s))
table_first [] s t h = h
table_first (x ∷ []) s t h = absurd h
table_first (x ∷ y ∷ ps) s t h = elim (or_out (eqb x s && eqb y t) (in_table ps s t) h) [
  | inl g ↦ or_0 (eqb s x) (eqb s y || any_of ps (eqb s)) (subst (λ z. T (eqb s z)) (sym (eqb→eq x s (and_0 (eqb x s) (eqb y t) g))) (eqb_refl s))
  | inr g ↦ or_1 (eqb s x) (eqb s y || any_of ps (eqb s)) (or_1 (eqb s y) (any_of ps (eqb s)) (table_first ps s t g))
]

-- and one that it names second
pub table_second : (ps : List ℕ) (s t : ℕ) → T (in_table ps s t) → T (any_of ps (eqb t))
table_second [] s t h = h
table_second (x ∷ []) s t h = absurd h
table_second (x ∷ y ∷ ps) s t h = elim (or_out (eqb x s && eqb y t) (in_table ps s t) h) [
  | inl g ↦ or_1 (eqb t x) (eqb t y || any_of ps (eqb t)) (or_0 (eqb t y) (any_of ps (eqb t)) (subst (λ z. T (eqb t z)) (sym (eqb→eq y t (and_1 (eqb x s) (eqb y t) g))) (eqb_refl t)))
  | inr g ↦ or_1 (eqb t x) (eqb t y || any_of ps (eqb t)) (or_1 (eqb t y) (any_of ps (eqb t)) (table_second ps s t g))
]

-- a bisimulation that is a test and keeps within two lists makes its pairs bisimilar
pub bisimilar_by : (m : Machine) (xs ys : List ℕ) (f : ℕ → ℕ → Bool) → ((x y : ℕ) → T (f x y) → T (any_of xs (eqb x)) × T (any_of ys (eqb y)))
    → Bisimulation m (λ x y. T (f x y)) → (s t : ℕ) → T (f s t) → Bisimilar m s t
bisimilar_by m xs ys f within b s t h =
    let enter : (x y : ℕ) → T (f x y) → T (in_table (pairs xs ys f) x y) = λ x y p. let w = within x y p in pairs_in xs ys f x y w.0 w.1 p in
    record {
      table = pairs xs ys f;
      has = enter s t h;
      keeps = record {
        forth = λ x y a u p g. let w = b.forth x y a u (pairs_out xs ys f x y p) g in (w.0, w.1, enter u w.0 w.2);
        back = λ x y a v p g. let w = b.back x y a v (pairs_out xs ys f x y p) g in (w.0, w.1, enter w.0 v w.2);
      };
    }
