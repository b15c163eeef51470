-- The loop over the lines, as its code sees it.
use Rattle.std.proofs.Common.{◌≡◌, ℕ, ◌+◌, ◌<◌, suc, List, ◌∷◌, length, get_or, drop, Ok, Err, sym, ap, ◌∙◌, subst, add-one, drop-cons, true, lit<, arith}
use Rattle.std.specs.List.{enumerate_from, slice_split}
use Rattle.std.specs.declared.iter.Enumerate.{Enumerate}
use Rattle.std.specs.declared.str.Split.{Split}
use Rattle.std.specs.Iterator.Adapters.{enumerate_source, enumerate_count, enumerate_steps}
use Rattle.std.specs.Str.Iter.{split_steps, split_text, split_has_more, split_pattern}
use Rattle.std.specs.Str.Pattern.{FindsChar}
use Rattle.std.proofs.lemmas.Iterator.{YieldsList}
use Rattle.std.proofs.lemmas.Iterator.Consumers.{YieldsList-at, YieldsList-from_enumerate}
use Rattle.std.proofs.lemmas.Iterator.Splits.{YieldsList-from_str_split}
use Rattle.std.proofs.lemmas.List.{drop_all}
use Rattle.std.proofs.lemmas.List.FromFn.{length-enumerate_from, get_or-enumerate_from}
use Rattle.script.specs.Grammar.{reading}
use Rattle.drawing.specs.declared.Trouble.{Trouble}
use Rattle.drawing.specs.declared.Trouble.TheVariants.{Refused, Memory}
use Rattle.drawing.specs.declared.sketch.Sketch.{Sketch}
use Rattle.drawing.specs.Lines.{lines_of}
use Rattle.drawing.specs.Model.{Draft, Progress, going, clear, add, finish, run, drawn}
use Rattle.drawing.specs.Code.{drafted, Numbered, Follows, Agrees, why}
use Rattle.drawing.proofs.Lined.{is_newline, lines_split}
use Rattle.drawing.proofs.Numbering.{numbered_add}
use Rattle.drawing.proofs.Runs.{run_stop, run_end, run_next}

-- after the first n lines of the text the sketch is k
pub record Sofar (text : List ℕ) (n : ℕ) (k : Sketch) : Type 0 where
  pub numbered : Numbered (drafted k)
  pub same : run n (going (drafted k)) (drop n (lines_of text)) ≡ drawn text

pub none_yet : (text : List ℕ) (k : Sketch) → drafted k ≡ clear → Sofar text 0 k
unfolding drawn
none_yet text k e = record { numbered = subst Numbered (sym e) tt; same = ap (λ d. run 0 (going d) (lines_of text)) e }

-- the loop goes over the lines with their indices
pub road : (text : List ℕ) {s : Split ℕ} {q r : Enumerate (Split ℕ)} → split_text s ≡ text → split_has_more s ≡ true → split_pattern s ≡ 10 → enumerate_source q ≡ s → enumerate_count q ≡ 0 → r ≡ q
    → YieldsList {B = ℕ × List ℕ} (enumerate_steps (split_steps FindsChar (λ a b. b ≡ a))) (λ p. (p.0, p.1.now)) r (enumerate_from 0 (slice_split is_newline text))
road text a b c d e f = YieldsList-at f (YieldsList-from_enumerate (YieldsList-at d (YieldsList-from_str_split 10 text (lit< tt) a b c)) e)

-- the line with the index n is l, as `split` and `enumerate` give it
abbrev pub Turn : List ℕ → ℕ → ℕ → List ℕ → Type 0
Turn text n i l =
    let ls = enumerate_from 0 (slice_split is_newline text) in
    (n < length ls) × ((i, l) ≡ get_or ls n (i, l))

run_more : (at : ℕ) (k : Draft) (l : List ℕ) (ls : List (List ℕ)) → run at (going k) (l ∷ ls) ≡ run (at + 1) (add (at + 1) k (reading l)) ls
run_more at k l ls = rw add-one (run_next at k l ls)

module _ {text : List ℕ} {n : ℕ} {k : Sketch} (old : Sofar text n k) where
  -- it is the first of the lines that are left
  pub next_line : (i : ℕ) (l : List ℕ) → Turn text n i l → (i ≡ n) × (drop n (lines_of text) ≡ l ∷ drop (n + 1) (lines_of text))
  next_line i l t =
      let ls = slice_split is_newline text in
      let h : n < length ls = omega (arith, t.0, length-enumerate_from 0 ls) in
      let here : (i, l) ≡ (0 + n, get_or ls n l) = t.1 ∙ get_or-enumerate_from 0 ls n (i, l) h in
      (omega (arith, ap (λ p. p.0) here), rw lines_split (rw add-one (drop-cons ls n l h ∙ ap (λ m. m ∷ drop (suc n) ls) (sym (ap (λ p. p.1) here)))))

  step : (i : ℕ) (l : List ℕ) (p : Progress) → Turn text n i l → add (i + 1) (drafted k) (reading l) ≡ p → run (n + 1) p (drop (n + 1) (lines_of text)) ≡ drawn text
  step i l p t a =
      let one = next_line i l t in
      let ls = drop (n + 1) (lines_of text) in
      ap (λ q. run (n + 1) q ls) (sym a ∙ ap (λ m. add (m + 1) (drafted k) (reading l)) one.0) ∙ sym (run_more n (drafted k) l ls) ∙ ap (run n (going (drafted k))) (sym one.1) ∙ old.same

  pub step_going : (i : ℕ) (l : List ℕ) (k' : Sketch) → Turn text n i l → Follows (Ok tt) k' (add (i + 1) (drafted k) (reading l)) → Sofar text (n + 1) k'
  step_going i l k' t f = record {
    numbered = numbered_add (i + 1) (drafted k) (drafted k') (reading l) f old.numbered;
    same = step i l (going (drafted k')) t f;
  }

  pub step_stopped : (i : ℕ) (l : List ℕ) (k' : Sketch) (e : Trouble) → Turn text n i l → Follows (Err e) k' (add (i + 1) (drafted k) (reading l)) → Agrees (Err e) (drawn text)
  step_stopped i l k' (Refused f) t a = sym (step i l _ t a) ∙ run_stop (n + 1) f.line (why f.reason) (drop (n + 1) (lines_of text))
  step_stopped i l k' Memory t a = tt

  -- there is no line more
  pub ended : n ≡ length (enumerate_from 0 (slice_split is_newline text)) → finish n (drafted k) ≡ drawn text
  ended e =
      let ls = slice_split is_newline text in
      let all : length (lines_of text) ≡ n = omega (arith, ap length (lines_split text), length-enumerate_from 0 ls) in
      sym (run_end n (drafted k)) ∙ ap (run n (going (drafted k))) (sym (drop_all n (lines_of text) (omega arith))) ∙ old.same
