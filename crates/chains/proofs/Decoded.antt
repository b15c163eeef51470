-- Transitions as they are decoded, by their place.
use Rattle.std.proofs.Common.{◌≡◌, ℕ, zero, suc, ◌+◌, ◌*◌, ◌≤◌, List, [], ◌∷◌, length, get_or, refl, ap, ◌∙◌, arith}
use Rattle.lts.specs.declared.Transition.{Transition}
use Rattle.lts.specs.Decoding.{transitions_of}
use Rattle.chains.specs.System.{transition_at}

-- stands past the last
abbrev pub no_transition : Transition
no_transition = record { source = 0; label = 0; target = 0 }

-- how many there are
pub how_many : (ws : List ℕ) (g : ℕ) → length ws ≡ 3 * g → length (transitions_of ws) ≡ g
how_many [] g h = omega arith
how_many (s ∷ []) g h = absurd (omega arith)
how_many (s ∷ a ∷ []) g h = absurd (omega arith)
how_many (s ∷ a ∷ t ∷ ws) zero h = absurd (omega arith)
how_many (s ∷ a ∷ t ∷ ws) (suc g) h = ap suc (how_many ws g (omega arith))

past : (s a t : ℕ) (ws : List ℕ) (j : ℕ) → transition_at ws j ≡ transition_at (s ∷ a ∷ t ∷ ws) (suc j)
past s a t ws j =
    let p : suc (suc (suc (3 * j))) ≡ 3 * suc j = omega arith in
    let q : suc (suc (suc (3 * j + 1))) ≡ 3 * suc j + 1 = omega arith in
    let r : suc (suc (suc (3 * j + 2))) ≡ 3 * suc j + 2 = omega arith in
    let at : ℕ → ℕ = λ k. get_or (s ∷ a ∷ t ∷ ws) k 0 in
    λ i. record { source = at (p i); label = at (q i); target = at (r i) }

-- which one stands at a place
pub at_place : (ws : List ℕ) (j : ℕ) (d : Transition) → 3 * j + 3 ≤ length ws → get_or (transitions_of ws) j d ≡ transition_at ws j
at_place [] j d h = absurd (omega arith)
at_place (s ∷ []) j d h = absurd (omega arith)
at_place (s ∷ a ∷ []) j d h = absurd (omega arith)
at_place (s ∷ a ∷ t ∷ ws) zero d h = refl
at_place (s ∷ a ∷ t ∷ ws) (suc j) d h = at_place ws j d (omega arith) ∙ past s a t ws j
