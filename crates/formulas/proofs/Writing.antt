-- Births in words, and one more written after them.
use Rattle.std.proofs.Common.{◌≡◌, ℕ, zero, suc, ◌+◌, ◌*◌, ◌<◌, ◌≤◌, List, ◌∷◌, length, get_or, set, refl, ap, ◌∙◌, add-one, arith, length-set}
use Rattle.theory.specs.Births.{Birth}
use Rattle.formulas.specs.Link.{birth_at, births_of}
use Rattle.formulas.proofs.Slices.{set_here, set_else}

-- births by their four words
same_birth : {l a u y l' a' u' y' : ℕ} → l ≡ l' → a ≡ a' → u ≡ u' → y ≡ y'
    → ◌≡◌ {A = Birth} (record { level = l; label = a; reach = u; lack = y }) (record { level = l'; label = a'; reach = u'; lack = y' })
same_birth p q r s j = record { level = p j; label = q j; reach = r j; lack = s j }

-- births whose words stay stay
pub births_kept : (ws ws' : List ℕ) (k : ℕ) → ((i : ℕ) → i < 4 * k → get_or ws' i 0 ≡ get_or ws i 0) → births_of ws' k ≡ births_of ws k
births_kept ws ws' zero h = refl
births_kept ws ws' (suc k) h =
    let b : birth_at ws' k ≡ birth_at ws k = same_birth (h (4 * k) (omega arith)) (h (4 * k + 1) (omega arith)) (h (4 * k + 2) (omega arith)) (h (4 * k + 3) (omega arith)) in
    let t = births_kept ws ws' k (λ i l. h i (omega arith)) in
    ap (λ x. x ∷ births_of ws' k) b ∙ ap (λ xs. birth_at ws k ∷ xs) t

-- birth k, written
abbrev pub written : List ℕ → ℕ → ℕ → ℕ → ℕ → ℕ → List ℕ
written ws k l a u y = set (set (set (set ws (4 * k) l) (4 * k + 1) a) (4 * k + 2) u) (4 * k + 3) y

-- the births then
pub births_written : (ws : List ℕ) (k l a u y : ℕ) → 4 * k + 4 ≤ length ws → births_of (written ws k l a u y) (k + 1) ≡ record { level = l; label = a; reach = u; lack = y } ∷ births_of ws k
births_written ws k l a u y h =
    let x1 = set ws (4 * k) l in
    let x2 = set x1 (4 * k + 1) a in
    let x3 = set x2 (4 * k + 2) u in
    let x4 = set x3 (4 * k + 3) y in
    let n1 = length-set ws (4 * k) l in
    let n2 = length-set x1 (4 * k + 1) a in
    let n3 = length-set x2 (4 * k + 2) u in
    let b = same_birth
    (set_else x3 (4 * k + 3) (4 * k) y (λ e. omega arith) ∙ set_else x2 (4 * k + 2) (4 * k) u (λ e. omega arith) ∙ set_else x1 (4 * k + 1) (4 * k) a (λ e. omega arith) ∙ set_here ws (4 * k) (4 * k) l (omega arith) refl)
    (set_else x3 (4 * k + 3) (4 * k + 1) y (λ e. omega arith) ∙ set_else x2 (4 * k + 2) (4 * k + 1) u (λ e. omega arith) ∙ set_here x1 (4 * k + 1) (4 * k + 1) a (omega arith) refl)
    (set_else x3 (4 * k + 3) (4 * k + 2) y (λ e. omega arith) ∙ set_here x2 (4 * k + 2) (4 * k + 2) u (omega arith) refl)
    (set_here x3 (4 * k + 3) (4 * k + 3) y (omega arith) refl) in
    let t = births_kept ws x4 k (λ i p. set_else x3 (4 * k + 3) i y (λ e. omega arith) ∙ set_else x2 (4 * k + 2) i u (λ e. omega arith) ∙ set_else x1 (4 * k + 1) i a (λ e. omega arith) ∙ set_else ws (4 * k) i l (λ e. omega arith)) in
    ap (births_of x4) (add-one k) ∙ ap (λ x. x ∷ births_of x4 k) b ∙ ap (λ xs. record { level = l; label = a; reach = u; lack = y } ∷ xs) t
