-- The museum's two machines: what tells them apart, and that nothing nearer does.
use Rattle.std.proofs.Common.{◌≡◌, ℕ, ◌≤◌, Bool, true, false, not, ◌&&◌, ◌||◌, eqb, refl, ap, arith}
use Rattle.lts.specs.Machine.{Machine}
use Rattle.lts.specs.Formula.{Formula, top, neg, and, dia, satisfies, depth}
use Rattle.lts.specs.Museum.{chocolate, ToldApart}

-- a formula that looks no step ahead holds of all states or of none
pub flat : (m : Machine) (f : Formula) (s t : ℕ) → depth f ≤ 0 → satisfies m f s ≡ satisfies m f t
flat m top s t d = refl
flat m (neg f) s t d = ap not (flat m f s t d)
flat m (and f g) s t d = let l : depth f ≤ 0 = omega arith in let r : depth g ≤ 0 = omega arith in cc (flat m f s t l, flat m g s t r)
flat m (dia a f) s t d = absurd (omega arith)

-- one answer by a label against two that are equal to it
one_or_two : (p x y z : Bool) → x ≡ y → x ≡ z → ((p && x) || false) ≡ ((p && y) || ((p && z) || false))
one_or_two true true y z e f = cc
one_or_two true false y z e f = cc
one_or_two false x y z e f = refl

nearer : (f : Formula) → depth f ≤ 1 → satisfies chocolate f 0 ≡ satisfies chocolate f 4
nearer top d = refl
nearer (neg f) d = ap not (nearer f d)
nearer (and f g) d = let l : depth f ≤ 1 = omega arith in let r : depth g ≤ 1 = omega arith in cc (nearer f l, nearer g r)
nearer (dia a f) d =
    let flat-f : depth f ≤ 0 = omega arith in
    one_or_two (eqb 1 a) (satisfies chocolate f 1) (satisfies chocolate f 5) (satisfies chocolate f 6) (flat chocolate f 1 5 flat-f) (flat chocolate f 1 6 flat-f)

pub told_apart : ToldApart 2
told_apart = record { of_the_old = refl; not_of_the_new = refl; ahead = refl; none_nearer = λ f d. nearer f (omega arith) }
