-- The sets tell which transition is the first that is not matched.
use Rattle.std.proofs.Common.{◌≡◌, ℕ, ◌*◌, ◌<◌, Bool, true, false, not, T, eqb, List, length, get_or, Some, None, Option, sym, ap, ◌∙◌, subst, inl, inr, arith, eqb→eq}
use mathlib.Core.Option.{some}
use Rattle.lts.specs.declared.Transition.{Transition}
use Rattle.lts.specs.Decoding.{transitions_of}
use Rattle.lts.specs.Formula.{any_step}
use Rattle.theory.specs.Births.{unmatched}
use Rattle.theory.proofs.Bools.{T-or_not, and_in, and_not_0, and_not_1, is_T}
use Rattle.theory.proofs.Places.{any_place, place_any, fails_at, first_failing_at, first_failing_none}
use Rattle.std.proofs.lemmas.Bool.{eq-eqb}
use Rattle.chains.specs.System.{source_at, label_at, target_at, transition_at}
use Rattle.chains.specs.Labels.{in_set}
use Rattle.chains.specs.Matching.{block_at, related, Emptied, Listed, Added, FirstMissing, FirstUnmatched}
use Rattle.chains.proofs.Decoded.{how_many, at_place}

not_not : (b : Bool) → T b → T (not (not b))
not_not true h = h
not_not false h = h

-- what is not listed is not matched, and the other way round
pub first_unmatched : (ws old : List ℕ) (n g x y : ℕ) (before sets : List ℕ) (r : Option ℕ) → length ws ≡ 3 * g → ((t : ℕ) → t < g → label_at ws t < 64)
    → Emptied ws old g x before → Added ws old g y before sets → FirstMissing ws old g x sets r → FirstUnmatched ws old n g x y r
unfolding unmatched
first_unmatched ws old n g x y before sets r whole labels e k = go r
  where
    ts : List Transition
    ts = transitions_of ws

    d : Transition
    d = transition_at ws 0

    f : ℕ → ℕ → Bool
    f a u = any_step ts y a (related old u)

    many : length ts ≡ g
    many = how_many ws g whole

    place : (t : ℕ) → t < g → get_or ts t d ≡ transition_at ws t
    place t h = at_place ws t d (omega arith)

    listed_matched : (t : ℕ) → t < g → source_at ws t ≡ x → Listed ws old sets t → T (f (label_at ws t) (target_at ws t))
    listed_matched t h s l =
        let (u, i, p, q, v) = k.only (block_at ws old t) (label_at ws t) (labels t h) (e t h s (label_at ws t) (labels t h)) l in
        let w : get_or ts u d ≡ transition_at ws u = place u i in
        place_any ts y (label_at ws t) (related old (target_at ws t)) d u (omega (arith, i, many))
        (ap (λ (z : Transition). z.source) w ∙ p) (ap (λ (z : Transition). z.label) w ∙ q)
        (subst (λ (z : Transition). T (related old (target_at ws t) z.target)) (sym w) (is_T (eqb (block_at ws old t) (block_at ws old u)) (eq-eqb (block_at ws old t) (block_at ws old u) (sym v))))

    matched_listed : (t : ℕ) → T (f (label_at ws t) (target_at ws t)) → Listed ws old sets t
    matched_listed t m =
        let (u, i, p, q, v) = any_place ts y (label_at ws t) (related old (target_at ws t)) d m in
        let h : u < g = omega (arith, i, many) in
        let w : get_or ts u d ≡ transition_at ws u = place u h in
        let b : block_at ws old t ≡ block_at ws old u = eqb→eq (block_at ws old t) (block_at ws old u) (subst (λ (z : Transition). T (related old (target_at ws t) z.target)) w v) in
        let a : label_at ws t ≡ label_at ws u = sym q ∙ ap (λ (z : Transition). z.label) w in
        subst (λ z. in_set sets z (label_at ws t) ≡ 1) (sym b) (subst (λ z. in_set sets (block_at ws old u) z ≡ 1) (sym a) (k.listed u h (sym (ap (λ (z : Transition). z.source) w) ∙ p)))

    passes : (t : ℕ) → t < g → (source_at ws t ≡ x → Listed ws old sets t) → T (not (fails_at x f (get_or ts t d)))
    passes t h l = subst (λ (z : Transition). T (not (fails_at x f z))) (sym (place t h)) (elim (T-or_not (eqb (source_at ws t) x)) [
      | inl w ↦ let s : source_at ws t ≡ x = eqb→eq (source_at ws t) x w in
          and_not_1 (eqb (source_at ws t) x) (not (f (label_at ws t) (target_at ws t))) (not_not (f (label_at ws t) (target_at ws t)) (listed_matched t h s (l s)))
      | inr w ↦ and_not_0 (eqb (source_at ws t) x) (not (f (label_at ws t) (target_at ws t))) w
    ])

    fails : (t : ℕ) → t < g → source_at ws t ≡ x → (Listed ws old sets t → ⊥) → T (fails_at x f (get_or ts t d))
    fails t h s l = subst (λ (z : Transition). T (fails_at x f z)) (sym (place t h))
        (and_in (eqb (source_at ws t) x) (not (f (label_at ws t) (target_at ws t))) (is_T (eqb (source_at ws t) x) (eq-eqb (source_at ws t) x s))
        (elim (T-or_not (f (label_at ws t) (target_at ws t))) [ inl w ↦ absurd (l (matched_listed t w)) | inr w ↦ w ]))

    go : (o : Option ℕ) → FirstMissing ws old g x sets o → FirstUnmatched ws old n g x y o
    go None l = first_failing_none ts x f d (λ t h. let b : t < g = omega (arith, many) in passes t b (l t b))
    go (Some j) l = record {
      within = l.within;
      of = l.of;
      is = first_failing_at ts x f d j (omega (arith, l.within, many)) (λ t h. passes t (omega (arith, l.within)) (l.before t h)) (fails j l.within l.of l.missing)
          ∙ ap some (place j l.within);
    }

-- a state with no transition has none that is not matched
pub unmatched_none : (ws old : List ℕ) (n g x y : ℕ) → length ws ≡ 3 * g → ((t : ℕ) → t < g → source_at ws t ≡ x → ⊥) → FirstUnmatched ws old n g x y None
unfolding unmatched
unmatched_none ws old n g x y whole none = first_failing_none (transitions_of ws) x f d (λ t h.
    let b : t < g = omega (arith, h, how_many ws g whole) in
    subst (λ (z : Transition). T (not (fails_at x f z))) (sym (at_place ws t d (omega (arith, b, whole)))) (elim (T-or_not (eqb (source_at ws t) x)) [
      | inl w ↦ absurd (none t b (eqb→eq (source_at ws t) x w))
      | inr w ↦ and_not_0 (eqb (source_at ws t) x) (not (f (label_at ws t) (target_at ws t))) w
    ]))
  where
    d : Transition
    d = transition_at ws 0

    f : ℕ → ℕ → Bool
    f a u = any_step (transitions_of ws) y a (related old u)
