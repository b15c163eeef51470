-- Tests: what follows from one that passes, and from one that does not.
use Rattle.std.proofs.Common.{◌≡◌, Bool, true, false, not, ◌&&◌, ◌||◌, T, ◌⊎◌, sym, refl, subst, inl, inr}
use mathlib.Core.Bool.{beq}

-- a test passes or does not
pub T-or_not : (b : Bool) → T b ⊎ T (not b)
T-or_not true = inl tt
T-or_not false = inr tt

-- passing and not passing, as equations, and back
pub T-is : (b : Bool) → T b → b ≡ true
T-is true h = refl
T-is false h = absurd h

pub is_T : (b : Bool) → b ≡ true → T b
is_T b e = subst T (sym e) tt

pub not_is : (b : Bool) → T (not b) → b ≡ false
not_is true h = absurd h
not_is false h = refl

pub is_not : (b : Bool) → b ≡ false → T (not b)
is_not b e = subst (λ c. T (not c)) (sym e) tt

-- not both
pub not_both : (b : Bool) → T b → T (not b) → ⊥
not_both true h g = g
not_both false h g = h

-- both of two: from its parts, to them, and what fails if it does
pub and_in : (a b : Bool) → T a → T b → T (a && b)
and_in true b h g = g
and_in false b h g = h

pub and_0 : (a b : Bool) → T (a && b) → T a
and_0 true b h = tt
and_0 false b h = h

pub and_1 : (a b : Bool) → T (a && b) → T b
and_1 true b h = h
and_1 false b h = absurd h

pub and_not : (a b : Bool) → T (not (a && b)) → T (not a) ⊎ T (not b)
and_not true b h = inr h
and_not false b h = inl tt

-- one of two: from either, and to one of them
pub or_0 : (a b : Bool) → T a → T (a || b)
or_0 true b h = tt
or_0 false b h = absurd h

pub or_1 : (a b : Bool) → T b → T (a || b)
or_1 true b h = tt
or_1 false b h = h

pub or_out : (a b : Bool) → T (a || b) → T a ⊎ T b
or_out true b h = inl tt
or_out false b h = inr h

-- an implication as a test
pub implies_in : (a b : Bool) → (T a → T b) → T (not a || b)
implies_in true b h = h tt
implies_in false b h = tt

pub implies_out : (a b : Bool) → T (not a || b) → T a → T b
implies_out true b h g = h
implies_out false b h g = absurd g

pub implies_not : (a b : Bool) → T (not (not a || b)) → T a × T (not b)
implies_not true b h = (tt, h)
implies_not false b h = absurd h

-- tests that pass together are equal
pub iff_is : (a b : Bool) → (T a → T b) → (T b → T a) → a ≡ b
iff_is true true f g = refl
iff_is true false f g = absurd (f tt)
iff_is false true f g = absurd (g tt)
iff_is false false f g = refl

-- equality of tests, as a test
pub beq_is : (a b : Bool) → T (beq a b) → a ≡ b
beq_is true true h = refl
beq_is true false h = absurd h
beq_is false true h = absurd h
beq_is false false h = refl

pub is_beq : (a b : Bool) → a ≡ b → T (beq a b)
is_beq true true e = tt
is_beq true false e = subst T e tt
is_beq false true e = subst T (sym e) tt
is_beq false false e = tt

-- what would make b pass does not, if b does not
pub not_T_of : (a b : Bool) → (T a → T b) → T (not b) → T (not a)
not_T_of true b f h = absurd (not_both b (f tt) h)
not_T_of false b f h = tt

-- both fail if one does
pub and_not_0 : (a b : Bool) → T (not a) → T (not (a && b))
and_not_0 true b h = absurd h
and_not_0 false b h = tt

pub and_not_1 : (a b : Bool) → T (not b) → T (not (a && b))
and_not_1 true b h = h
and_not_1 false b h = tt
