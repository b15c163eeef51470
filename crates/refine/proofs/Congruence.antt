-- Blocks may be tested by any test that is the same on states.
use Rattle.std.proofs.Common.{◌≡◌, ℕ, ◌<◌, Bool, true, false, not, ◌&&◌, T, eqb, List, [], ◌∷◌, refl, ap, eqb→eq}
use Rattle.lts.specs.declared.Transition.{Transition}
use Rattle.lts.specs.Machine.{Machine, Among, later}
use Rattle.lts.specs.Formula.{any_step}
use Rattle.theory.specs.Together.{Closed}
use Rattle.theory.specs.Births.{first_failing, unmatched, next_birth}
use Rattle.theory.proofs.Steps.{step, head_step}

both_same : (p q x y : Bool) → (T p → T q → x ≡ y) → p && (q && x) ≡ p && (q && y)
both_same true true x y h = h tt tt
both_same true false x y h = refl
both_same false q x y h = refl

one_same : (p x y : Bool) → (T p → x ≡ y) → p && not x ≡ p && not y
one_same true x y h = ap not (h tt)
one_same false x y h = refl

any_same : (ts : List Transition) (y a : ℕ) (f g : ℕ → Bool) → ((v : ℕ) → Among (step y a v) ts → f v ≡ g v) → any_step ts y a f ≡ any_step ts y a g
any_same [] y a f g h = refl
any_same (t ∷ ts) y a f g h =
    let head = both_same (eqb t.source y) (eqb t.label a) (f t.target) (g t.target) (λ p q. h t.target (head_step t ts y a t.target (eqb→eq t.source y p) (eqb→eq t.label a q) refl)) in
    let rest = any_same ts y a f g (λ v e. h v (later e)) in
    cc

failing_same : (ts : List Transition) (x : ℕ) (f g : ℕ → ℕ → Bool) → ((a u : ℕ) → Among (step x a u) ts → f a u ≡ g a u) → first_failing ts x f ≡ first_failing ts x g
failing_same [] x f g h = refl
failing_same (t ∷ ts) x f g h =
    let head = one_same (eqb t.source x) (f t.label t.target) (g t.label t.target) (λ p. h t.label t.target (head_step t ts x t.label t.target (eqb→eq t.source x p) refl refl)) in
    let rest = failing_same ts x f g (λ a u e. h a u (later e)) in
    cc

module _ (m : Machine) (closed : Closed m) (r q : ℕ → ℕ → Bool) (same : (u v : ℕ) → u < m.states → v < m.states → r u v ≡ q u v) where
  pub unmatched_same : (x y : ℕ) → unmatched m r x y ≡ unmatched m q x y
  unfolding unmatched
  unmatched_same x y =
      failing_same m.transitions x (λ a u. any_step m.transitions y a (r u)) (λ a u. any_step m.transitions y a (q u))
      (λ a u e. any_same m.transitions y a (r u) (q u) (λ v d. same u v (closed x a u e) (closed y a v d)))

  pub next_birth_same : (k p s : ℕ) → next_birth m r k p s ≡ next_birth m q k p s
  unfolding next_birth
  next_birth_same k p s = let one = unmatched_same p s in let two = unmatched_same s p in cc
