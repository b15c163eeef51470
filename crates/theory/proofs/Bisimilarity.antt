-- Bisimilar is symmetric and transitive, and reflexive on the states of a closed machine; bisimilar states satisfy the same formulas.
use Rattle.std.proofs.Common.{◌≡◌, ℕ, ◌<◌, Bool, ◌&&◌, T, eqb, ltb, List, sym, subst, le_refl, eqb→eq, ltb→lt, lt→ltb}
use lib.Dec.{eqb_refl}
use Rattle.lts.specs.Machine.{Machine, Step}
use Rattle.lts.specs.Bisimulation.{Bisimilar, in_table}
use Rattle.lts.specs.Formula.{Formula, satisfies, depth}
use Rattle.theory.specs.Together.{Closed}
use Rattle.theory.proofs.Bools.{and_in, and_0, and_1}
use Rattle.theory.proofs.Agreement.{agree_by}
use Rattle.theory.proofs.Tables.{any_of, any_of_out, any_of_in, below, in_below, table_first, table_second, bisimilar_by}

-- by the table turned round
pub bisimilar_sym : (m : Machine) (s t : ℕ) → Bisimilar m s t → Bisimilar m t s
bisimilar_sym m s t b = bisimilar_by m b.table b.table (λ x y. in_table b.table y x)
    (λ x y h. (table_second b.table y x h, table_first b.table y x h))
    (record {
      forth = λ x y a u h g. b.keeps.back y x a u h g;
      back = λ x y a v h g. b.keeps.forth y x a v h g;
    })
    t s b.has

-- from x to z over some y
abbrev over : List ℕ → List ℕ → ℕ → ℕ → Bool
over p q x z = any_of q (λ y. in_table p x y && in_table q y z)

over_in : (p q : List ℕ) (x y z : ℕ) → T (in_table p x y) → T (in_table q y z) → T (over p q x z)
over_in p q x y z h g = any_of_in q (λ y. in_table p x y && in_table q y z) y (table_first q y z g) (and_in (in_table p x y) (in_table q y z) h g)

over_out : (p q : List ℕ) (x z : ℕ) → T (over p q x z) → (y : ℕ) × T (in_table p x y) × T (in_table q y z)
over_out p q x z h =
    let (y, _, g) = any_of_out q (λ y. in_table p x y && in_table q y z) h in
    (y, and_0 (in_table p x y) (in_table q y z) g, and_1 (in_table p x y) (in_table q y z) g)

-- by the pairs of the first table with those of the second
pub bisimilar_trans : (m : Machine) (s t u : ℕ) → Bisimilar m s t → Bisimilar m t u → Bisimilar m s u
bisimilar_trans m s t u b c = bisimilar_by m b.table c.table (over b.table c.table)
    (λ x z h. let (y, g, p) = over_out b.table c.table x z h in (table_first b.table x y g, table_second c.table y z p))
    (record {
      forth = λ x z a x' h g.
          let (y, p, q) = over_out b.table c.table x z h in
          let (y', g', p') = b.keeps.forth x y a x' p g in
          let (z', g'', q') = c.keeps.forth y z a y' q g' in
          (z', g'', over_in b.table c.table x' y' z' p' q');
      back = λ x z a z' h g.
          let (y, p, q) = over_out b.table c.table x z h in
          let (y', g', q') = c.keeps.back y z a z' q g in
          let (x', g'', p') = b.keeps.back x y a y' p g' in
          (x', g'', over_in b.table c.table x' y' z' p' q');
    })
    s u (over_in b.table c.table s t u b.has c.has)

-- a relation between states of a closed machine, as a test, that keeps up within them
pub bisimilar_states : (m : Machine) → Closed m → (f : ℕ → ℕ → Bool)
    → ((x y a u : ℕ) → x < m.states → y < m.states → T (f x y) → Step m x a u → (v : ℕ) × Step m y a v × T (f u v))
    → ((x y a v : ℕ) → x < m.states → y < m.states → T (f x y) → Step m y a v → (u : ℕ) × Step m x a u × T (f u v))
    → (s t : ℕ) → s < m.states → t < m.states → T (f s t) → Bisimilar m s t
bisimilar_states m closed f forth back s t hs ht h =
    let n = m.states in
    let g : ℕ → ℕ → Bool = λ x y. ltb x n && (ltb y n && f x y) in
    let enter : (x y : ℕ) → x < n → y < n → T (f x y) → T (g x y) = λ x y p q w. and_in (ltb x n) (ltb y n && f x y) (lt→ltb x n p) (and_in (ltb y n) (f x y) (lt→ltb y n q) w) in
    let leave : (x y : ℕ) → T (g x y) → (x < n) × (y < n) × T (f x y) = λ x y w.
    let w' = and_1 (ltb x n) (ltb y n && f x y) w in
    (ltb→lt x n (and_0 (ltb x n) (ltb y n && f x y) w), ltb→lt y n (and_0 (ltb y n) (f x y) w'), and_1 (ltb y n) (f x y) w') in
    bisimilar_by m (below n) (below n) g
    (λ x y w. let (p, q, _) = leave x y w in (in_below n x p, in_below n y q))
    (record {
      forth = λ x y a u w e. let (p, q, i) = leave x y w in let (v, e', o) = forth x y a u p q i e in (v, e', enter u v (closed x a u e) (closed y a v e') o);
      back = λ x y a v w e. let (p, q, i) = leave x y w in let (u, e', o) = back x y a v p q i e in (u, e', enter u v (closed x a u e') (closed y a v e) o);
    })
    s t (enter s t hs ht h)

-- by the table of each state with itself
pub bisimilar_refl : (m : Machine) → Closed m → (s : ℕ) → s < m.states → Bisimilar m s s
bisimilar_refl m closed s h = bisimilar_states m closed eqb
    (λ x y a u _ _ e g. (u, subst (λ z. Step m z a u) (eqb→eq x y e) g, eqb_refl u))
    (λ x y a v _ _ e g. (v, subst (λ z. Step m z a v) (sym (eqb→eq x y e)) g, eqb_refl v))
    s s h h (eqb_refl s)

-- bisimilar states satisfy the same formulas
pub bisimilar_agree : (m : Machine) (s t : ℕ) (f : Formula) → Bisimilar m s t → satisfies m f s ≡ satisfies m f t
bisimilar_agree m s t f b = agree_by m (λ k x y. T (in_table b.table x y))
    (record {
      forth = λ k x y a u h g. b.keeps.forth x y a u h g;
      back = λ k x y a v h g. b.keeps.back x y a v h g;
    })
    f (depth f) s t (le_refl (depth f)) b.has
