-- Lines that are said one after the other, and what stands where among what they say.
use Rattle.std.proofs.Common.{◌≡◌, ℕ, zero, suc, ◌<◌, List, [], ◌∷◌, ◌++◌, length, sym, refl, ap, ◌∙◌, subst, arith}
use mathlib.Core.Option.{Option, some, none}
use Rattle.lts.specs.Formula.{Formula, neg, and, dia}
use Rattle.lts.specs.Line.{Line, neg_line, and_line, dia_line, nth, given, line_formula, said_after}
use Rattle.theory.specs.Told.{sayings}

-- after lines that said fs, the last of them f, the lines ls leave it at gs, the last of them g
abbrev pub Run : List Formula → Formula → List Line → List Formula → Formula → Type 0
Run fs f [] gs g = (gs ≡ fs) × (g ≡ f)
Run fs f (l ∷ ls) gs g = (h : Formula) × (line_formula fs l ≡ some h) × Run (fs ++ (h ∷ [])) h ls gs g

-- and more lines after them
pub run_on : (fs : List Formula) (f : Formula) (ls : List Line) (gs : List Formula) (g : Formula) (ks : List Line) (hs : List Formula) (h : Formula)
    → Run fs f ls gs g → Run gs g ks hs h → Run fs f (ls ++ ks) hs h
run_on fs f [] gs g ks hs h (e, q) r = subst (λ (x : Formula). Run fs x ks hs h) q (subst (λ (xs : List Formula). Run xs g ks hs h) e r)
run_on fs f (l ∷ ls) gs g ks hs h (k, e, q) r = (k, e, run_on (fs ++ (k ∷ [])) k ls gs g ks hs h q r)

-- the last line says g
pub run_said : (fs : List Formula) (f : Formula) (ls : List Line) (gs : List Formula) (g : Formula) → Run fs f ls gs g → said_after fs f ls ≡ some g
run_said fs f [] gs g (e, q) = ap some (sym q)
run_said fs f (l ∷ ls) gs g (h, e, r) = ap (λ (o : Option Formula). given o none (λ k. said_after (fs ++ (k ∷ [])) k ls)) e ∙ run_said (fs ++ (h ∷ [])) h ls gs g r

-- all lines say gs
pub run_sayings : (fs : List Formula) (f : Formula) (ls : List Line) (gs : List Formula) (g : Formula) → Run fs f ls gs g → sayings fs ls ≡ some gs
run_sayings fs f [] gs g (e, q) = ap some (sym e)
run_sayings fs f (l ∷ ls) gs g (h, e, r) = ap (λ (o : Option Formula). given o none (λ k. sayings (fs ++ (k ∷ [])) ls)) e ∙ run_sayings (fs ++ (h ∷ [])) h ls gs g r

-- what stands in the front stands there still
pub nth_front : {A : Type 0} (xs ys : List A) (i : ℕ) → i < length xs → nth (xs ++ ys) i ≡ nth xs i
nth_front [] ys i h = absurd (omega arith)
nth_front (x ∷ xs) ys zero h = refl
nth_front (x ∷ xs) ys (suc i) h = nth_front xs ys i (omega arith)

-- what comes next stands at the length
pub nth_next : {A : Type 0} (xs : List A) (y : A) (ys : List A) → nth (xs ++ (y ∷ ys)) (length xs) ≡ some y
nth_next [] y ys = refl
nth_next (x ∷ xs) y ys = nth_next xs y ys

none_some : {A : Type 0} (x : A) → none ≡ some x → ⊥
none_some x e = let z : ◌≡◌ {A = ℕ} 0 1 = cc in omega arith

-- where something stands, there is a place
pub nth_below : {A : Type 0} (xs : List A) (i : ℕ) (x : A) → nth xs i ≡ some x → i < length xs
nth_below [] i x e = absurd (none_some x e)
nth_below (y ∷ xs) zero x e = omega arith
nth_below (y ∷ xs) (suc i) x e = omega (arith, nth_below xs i x e)

-- and it stands there when more comes
pub nth_stays : {A : Type 0} (xs ys : List A) (i : ℕ) (x : A) → nth xs i ≡ some x → nth (xs ++ ys) i ≡ some x
nth_stays xs ys i x e = nth_front xs ys i (nth_below xs i x e) ∙ e

-- what each kind of line says
pub neg_says : (fs : List Formula) (i : ℕ) (f : Formula) → nth fs i ≡ some f → line_formula fs (neg_line i) ≡ some (neg f)
neg_says fs i f e = ap (λ (o : Option Formula). given o none (λ f. some (neg f))) e

pub and_says : (fs : List Formula) (i j : ℕ) (f g : Formula) → nth fs i ≡ some f → nth fs j ≡ some g → line_formula fs (and_line i j) ≡ some (and f g)
and_says fs i j f g e q = ap (λ (o : Option Formula). given o none (λ f. given (nth fs j) none (λ g. some (and f g)))) e ∙ ap (λ (o : Option Formula). given o none (λ g. some (and f g))) q

pub dia_says : (fs : List Formula) (a i : ℕ) (f : Formula) → nth fs i ≡ some f → line_formula fs (dia_line a i) ≡ some (dia a f)
dia_says fs a i f e = ap (λ (o : Option Formula). given o none (λ f. some (dia a f))) e
