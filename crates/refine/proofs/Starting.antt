-- The lent words before the first round.
use Rattle.std.proofs.Common.{◌≡◌, ℕ, zero, suc, ◌+◌, ◌*◌, ◌<◌, true, ◌&&◌, T, ltb, List, [], ◌∷◌, length, get_or, drop, sym, refl, ◌∙◌, subst, arith, ltb→lt}
use Rattle.std.proofs.lemmas.List.{get_or-take, get_or-drop, length-take, length-drop}
use Rattle.lts.specs.declared.Transition.{Transition}
use Rattle.lts.specs.Machine.{Machine}
use Rattle.lts.specs.Question.{fits, within}
use Rattle.lts.specs.Decoding.{transitions_of}
use Rattle.theory.specs.Blocks.{least}
use Rattle.theory.specs.Births.{rounds}
use Rattle.theory.proofs.Bools.{and_0, and_1}
use Rattle.lent.proofs.Bits.{bit_at_zeros}
use Rattle.chains.specs.System.{source_at, label_at, target_at, transition_at, Bounded}
use Rattle.chains.proofs.Decoded.{no_transition, how_many, at_place}
use Rattle.formulas.specs.Link.{row_of}
use Rattle.refine.specs.Rounds.{After}

fits_at : (n : ℕ) (ts : List Transition) (j : ℕ) → T (within n ts) → j < length ts → T (fits n (get_or ts j no_transition))
fits_at n [] j h l = absurd (omega arith)
fits_at n (t ∷ ts) zero h l = and_0 (fits n t) (within n ts) h
fits_at n (t ∷ ts) (suc j) h l = fits_at n ts j (and_1 (fits n t) (within n ts) h) (omega arith)

pub bounded_of : (n : ℕ) (ws ns : List ℕ) → length ws ≡ 3 * length ns → T (within n (transitions_of ws)) → Bounded n ws ns
bounded_of n ws ns whole h = record {
  source = λ j l. let p = at j l in ltb→lt _ _ (and_0 (ltb (source_at ws j) n) (ltb (target_at ws j) n && ltb (label_at ws j) 64) p);
  target = λ j l. let p = at j l in ltb→lt _ _ (and_0 (ltb (target_at ws j) n) (ltb (label_at ws j) 64) (and_1 (ltb (source_at ws j) n) (ltb (target_at ws j) n && ltb (label_at ws j) 64) p));
  label = λ j l. let p = at j l in ltb→lt _ _ (and_1 (ltb (target_at ws j) n) (ltb (label_at ws j) 64) (and_1 (ltb (source_at ws j) n) (ltb (target_at ws j) n && ltb (label_at ws j) 64) p));
}
  where
    at : (j : ℕ) → j < length ns → T (fits n (transition_at ws j))
    at j l = subst (λ (t : Transition). T (fits n t)) (at_place ws j no_transition (omega arith)) (fits_at n (transitions_of ws) j h (omega (arith, how_many ws (length ns) whole)))

least_of_all : (n : ℕ) → least (λ t. true) n ≡ 0
unfolding least
least_of_all zero = refl
least_of_all (suc n) = least_of_all n

-- all rows are empty, and state 0 leads all
pub start_after : (m : Machine) (w : ℕ) (bw rows leads : List ℕ) → length rows ≡ m.states * w → length leads ≡ m.states
    → ((k : ℕ) → k < length rows → get_or rows k 0 ≡ 0) → ((k : ℕ) → k < length leads → get_or leads k 0 ≡ 0) → After m 0 w bw 0 rows leads
unfolding rounds
start_after m w bw rows leads long led blank none = record {
  born = refl;
  link = record {
    long = long;
    led = led;
    room = omega arith;
    bits = λ s j hs hj. bit_at_zeros (row_of rows w s) (zeros s) j;
    leaders = λ s hs. none s (omega (arith, led)) ∙ sym (least_of_all s);
  };
  grew = λ j l. absurd (omega arith);
}
  where
    zeros : (s k : ℕ) → k < length (row_of rows w s) → get_or (row_of rows w s) k 0 ≡ 0
    zeros s k h =
        let a = length-take w (drop (s * w) rows) in
        let b = length-drop (s * w) rows in
        let in_row : k < w = omega arith in
        let in_rows : s * w + k < length rows = omega arith in
        get_or-take w (drop (s * w) rows) k 0 in_row ∙ get_or-drop (s * w) rows k 0 ∙ blank (s * w + k) in_rows
