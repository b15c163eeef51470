-- Lines that all say something, with one title and one start at most, are run to their end.
use Rattle.std.proofs.Common.{◌≡◌, ℕ, suc, ◌+◌, ◌≤◌, List, [], ◌∷◌, ◌++◌, map, length, Some, None, Option, sym, refl, ap, ◌∙◌, subst, append_assoc, append-nil, arith}
use Rattle.std.specs.Option.{option_map, option_to_list}
use Rattle.std.specs.List.{flat_map}
use Rattle.std.proofs.lemmas.List.Concat.{flat_map-append}
use Rattle.std.proofs.lemmas.List.{length-append}
use Rattle.names.specs.Places.{Name}
use Rattle.script.specs.Grammar.{Stated, blank, machine, start, state, arrow, says, reading}
use Rattle.drawing.specs.Facts.{title_in, start_in}
use Rattle.drawing.specs.Model.{Draft, Why, going, stopped, titled, started, say, add, finish, run}
use Rattle.drawing.proofs.Built.{Built}
use Rattle.drawing.proofs.Runs.{say_built, run_end, run_next}

-- a second title would be two
once : {A : Type 0} (f : Stated → List A) (ss ts : List Stated) (s : Stated) → length (flat_map f (ss ++ (s ∷ ts))) ≤ 1 → length (flat_map f ss) + length (f s) ≤ 1
once f ss ts s h =
    let a = ap length (flat_map-append f ss (s ∷ ts)) ∙ length-append (flat_map f ss) (flat_map f (s ∷ ts)) in
    let b = length-append (f s) (flat_map f ts) in
    omega arith

-- no statement is refused
goes : (at : ℕ) (k : Draft) (ss ts : List Stated) (s : Stated) → Built ss k → length (flat_map title_in (ss ++ (s ∷ ts))) ≤ 1 → length (flat_map start_in (ss ++ (s ∷ ts))) ≤ 1
    → (n : ℕ) (w : Why) → say at k s ≡ stopped n w → ⊥
goes at k ss ts blank old h g n w e = cc
goes at k ss ts (machine m) old h g n w e = by k.title refl e
  where
    by : (o : Option Name) → k.title ≡ o → titled at k m o ≡ stopped n w → ⊥
    by None q f = cc
    by (Some x) q f = omega (arith, once title_in ss ts (machine m) h, ap length (old.title ∙ ap option_to_list q))
goes at k ss ts (start m) old h g n w e = by k.start refl e
  where
    by : (o : Option (ℕ × Name)) → k.start ≡ o → started at k m o ≡ stopped n w → ⊥
    by None q f = cc
    by (Some x) q f = omega (arith, once start_in ss ts (start m) g, ap length (old.start ∙ ap (λ o. option_to_list (option_map (λ p. p.1) o)) q))
goes at k ss ts (state m) old h g n w e = cc
goes at k ss ts (arrow s b t) old h g n w e = cc

-- the draft at the end
pub record Whole (at : ℕ) (k : Draft) (ss : List Stated) (ls : List (List ℕ)) : Type 0 where
  pub last : Draft
  pub built : Built ss last
  pub ends : run at (going k) ls ≡ finish (at + length ls) last

pub complete : (at : ℕ) (k : Draft) (ss ts : List Stated) (ls : List (List ℕ)) → Built ss k → map reading ls ≡ map says ts
    → length (flat_map title_in (ss ++ ts)) ≤ 1 → length (flat_map start_in (ss ++ ts)) ≤ 1 → Whole at k (ss ++ ts) ls
complete at k ss [] [] old e h g = record { last = k; built = subst (λ u. Built u k) (sym (append-nil ss)) old; ends = run_end at k ∙ ap (λ n. finish n k) (omega arith) }
complete at k ss [] (l ∷ ls) old e h g = absurd (cc)
complete at k ss (s ∷ ts) [] old e h g = absurd (cc)
complete at k ss (s ∷ ts) (l ∷ ls) old e h g =
    let r : reading l ≡ says s = cc in
    let t : map reading ls ≡ map says ts = cc in
    let n = say_built (suc at) k ss s old (goes (suc at) k ss ts s old h g) in
    let q = append_assoc ss (s ∷ []) ts in
    let w = complete (suc at) n.next (ss ++ (s ∷ [])) ts ls n.built t (subst (λ u. length (flat_map title_in u) ≤ 1) (sym q) h) (subst (λ u. length (flat_map start_in u) ≤ 1) (sym q) g) in
    record {
      last = w.last;
      built = subst (λ u. Built u w.last) q w.built;
      ends = run_next at k l ls ∙ ap (λ u. run (suc at) (add (suc at) k u) ls) r ∙ ap (λ u. run (suc at) u ls) n.is ∙ w.ends ∙ ap (λ m. finish m w.last) (omega arith);
    }
