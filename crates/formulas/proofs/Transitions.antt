-- The transitions that words hold, by their place.
use Rattle.std.proofs.Common.{◌≡◌, ℕ, suc, ◌+◌, ◌*◌, ◌<◌, ◌≤◌, Bool, T, List, [], ◌∷◌, length, get_or, drop, sym, ap, ◌∙◌, subst, add-one, arith, length-drop, drop-cons}
use Rattle.lts.specs.declared.Transition.{Transition}
use Rattle.lts.specs.Machine.{Among}
use Rattle.lts.specs.Formula.{any_step}
use Rattle.lts.specs.Decoding.{transitions_of}
use Rattle.theory.proofs.Places.{among_at, any_place, place_any}
use Rattle.chains.proofs.Decoded.{no_transition, how_many, at_place}
use Rattle.chains.specs.System.{source_at, label_at, target_at, transition_at}

-- some transition of the words from s by a passes: at some place
pub step_place : (ws : List ℕ) (g s a : ℕ) (f : ℕ → Bool) → length ws ≡ 3 * g → T (any_step (transitions_of ws) s a f)
    → (i : ℕ) × (i < g) × (source_at ws i ≡ s) × (label_at ws i ≡ a) × T (f (target_at ws i))
step_place ws g s a f h p =
    let (i, l, x, y, z) = any_place (transitions_of ws) s a f no_transition p in
    let l' : i < g = omega (arith, how_many ws g h) in
    let e = at_place ws i no_transition (omega arith) in
    (i, l', sym (ap (λ (t : Transition). t.source) e) ∙ x, sym (ap (λ (t : Transition). t.label) e) ∙ y, subst (λ (t : Transition). T (f t.target)) e z)

-- one that passes at a place
pub place_step : (ws : List ℕ) (g s a : ℕ) (f : ℕ → Bool) (i : ℕ) → length ws ≡ 3 * g → i < g → source_at ws i ≡ s → label_at ws i ≡ a → T (f (target_at ws i)) → T (any_step (transitions_of ws) s a f)
place_step ws g s a f i h l x y z =
    let e = at_place ws i no_transition (omega arith) in
    place_any (transitions_of ws) s a f no_transition i (omega (arith, how_many ws g h))
    (ap (λ (t : Transition). t.source) e ∙ x) (ap (λ (t : Transition). t.label) e ∙ y) (subst (λ (t : Transition). T (f t.target)) (sym e) z)

-- the transition at a place is among them
pub place_among : (ws : List ℕ) (g s a i : ℕ) → length ws ≡ 3 * g → i < g → source_at ws i ≡ s → label_at ws i ≡ a → Among (record { source = s; label = a; target = target_at ws i }) (transitions_of ws)
place_among ws g s a i h l x y =
    subst (λ (t : Transition). Among t (transitions_of ws)) (at_place ws i no_transition (omega arith) ∙ same_go x y)
    (among_at (transitions_of ws) i no_transition (omega (arith, how_many ws g h)))
  where
    same_go : {s a t s' a' : ℕ} → s ≡ s' → a ≡ a' → ◌≡◌ {A = Transition} (record { source = s; label = a; target = t }) (record { source = s'; label = a'; target = t })
    same_go {t = t} p q j = record { source = p j; label = q j; target = t }

-- what comes next, where k transitions of the words have come
pub next_is : (ws : List ℕ) (g k : ℕ) (t : Transition) (rest : List Transition) → length ws ≡ 3 * g → drop k (transitions_of ws) ≡ t ∷ rest → (k < g) × (t ≡ transition_at ws k) × (rest ≡ drop (k + 1) (transitions_of ws))
next_is ws g k t rest h e =
    let ts = transitions_of ws in
    let many = how_many ws g h in
    let long = ap length e in
    let below : k < length ts = omega (arith, long, length-drop k ts) in
    let cut = drop-cons ts k no_transition below in
    let at = at_place ws k no_transition (omega arith) in
    let here : t ≡ get_or ts k no_transition = cc in
    let after : rest ≡ drop (suc k) ts = cc in
    (omega arith, here ∙ at, after ∙ ap (λ i. drop i ts) (sym (add-one k)))

-- nothing comes next: all have come
pub none_next : (ws : List ℕ) (g k : ℕ) → length ws ≡ 3 * g → drop k (transitions_of ws) ≡ [] → g ≤ k
none_next ws g k h e = omega (arith, how_many ws g h, ap length e, length-drop k (transitions_of ws))
