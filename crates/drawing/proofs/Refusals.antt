-- A refusal names a line of the text.
use Rattle.std.proofs.Common.{◌≡◌, ℕ, suc, ◌+◌, ◌<◌, ◌≤◌, List, [], ◌∷◌, length, IfSome, Some, None, Option, sym, ◌∙◌, arith}
use Rattle.names.specs.Places.{Name, place}
use Rattle.script.specs.Grammar.{Stated, blank, machine, start, state, arrow, Reading, says, fault, reading}
use Rattle.drawing.specs.Lines.{lines_of}
use Rattle.drawing.specs.Model.{Draft, Why, no_start, unknown_start, refuses, Progress, going, stopped, clear, titled, started, say, add, excess, closed, found, begun, finish, run, drawn}
use Rattle.drawing.proofs.Runs.{run_stop, run_end, run_next}
use Rattle.drawing.proofs.Lined.{lines_some}

-- the start was said at one of the first `at` lines
abbrev By : ℕ → Option (ℕ × Name) → Type 0
By at o = IfSome o (λ q. (1 ≤ q.0) × (q.0 ≤ at))

by_more : (at : ℕ) (o : Option (ℕ × Name)) → By at o → By (suc at) o
by_more at None h = tt
by_more at (Some q) h = (h.0, omega (arith, h.1))

abbrev Line : ℕ → ℕ → Type 0
Line most n = (1 ≤ n) × (n ≤ most)

at_line : {most : ℕ} (at n : ℕ) (w v : Why) → 1 ≤ at → at ≤ most → refuses at w ≡ refuses n v → Line most n
at_line at n w v a b e = let q : at ≡ n = cc in (omega arith, omega arith)

finish_line : (at : ℕ) (k : Draft) (n : ℕ) (w : Why) → 1 ≤ at → By at k.start → finish at k ≡ refuses n w → Line at n
unfolding finish
finish_line at k n w one b e = by k.start b e
  where
    sized : (i : ℕ) (o : Option Why) → closed at k i o ≡ refuses n w → Line at n
    sized i None h = absurd (cc)
    sized i (Some v) h = at_line at n v w one (omega arith) h

    placed : (q : ℕ × Name) (o : Option ℕ) → (1 ≤ q.0) × (q.0 ≤ at) → found at k q o ≡ refuses n w → Line at n
    placed q None l h = at_line q.0 n (unknown_start q.1) w l.0 l.1 h
    placed q (Some i) l h = sized i (excess k) h

    by : (o : Option (ℕ × Name)) → By at o → begun at k o ≡ refuses n w → Line at n
    by None l h = at_line at n no_start w one (omega arith) h
    by (Some q) l h = placed q (place k.states q.1) l h

-- a step goes on, or stops at its line
data Went (at : ℕ) : Progress → Type 0 where
  went : (k : Draft) → By at k.start → Went at (going k)
  halted : (w : Why) → Went at (stopped at w)

say_went : (at : ℕ) (k : Draft) (s : Stated) → By at k.start → Went (suc at) (say (suc at) k s)
say_went at k blank b = went k (by_more at k.start b)
say_went at k (machine n) b = by k.title
  where
    by : (o : Option Name) → Went (suc at) (titled (suc at) k n o)
    by None = went _ (by_more at k.start b)
    by (Some m) = halted _
say_went at k (start n) b = by k.start
  where
    by : (o : Option (ℕ × Name)) → Went (suc at) (started (suc at) k n o)
    by None = went _ (omega arith, omega arith)
    by (Some m) = halted _
say_went at k (state n) b = went _ (by_more at k.start b)
say_went at k (arrow s t u) b = went _ (by_more at k.start b)

add_went : (at : ℕ) (k : Draft) (r : Reading) → By at k.start → Went (suc at) (add (suc at) k r)
add_went at k (says s) b = say_went at k s b
add_went at k (fault e found) b = halted _

run_went : (at : ℕ) (p : Progress) (ls : List (List ℕ)) (n : ℕ) (w : Why) → 1 ≤ at → Went at p → run at p ls ≡ refuses n w → Line (at + length ls) n
run_went at p ls n w one (halted v) e = at_line at n v w one (omega arith) (sym (run_stop at at v ls) ∙ e)
run_went at p [] n w one (went k b) e = let l = finish_line at k n w one b (sym (run_end at k) ∙ e) in (l.0, omega (arith, l.1))
run_went at p (m ∷ ls) n w one (went k b) e =
    let l = run_went (suc at) (add (suc at) k (reading m)) ls n w (omega arith) (add_went at k (reading m) b) (sym (run_next at k m ls) ∙ e) in
    (l.0, omega (arith, l.1))

first_went : (ls : List (List ℕ)) (n : ℕ) (w : Why) → 0 < length ls → run 0 (going clear) ls ≡ refuses n w → Line (length ls) n
first_went [] n w h e = absurd (omega arith)
first_went (l ∷ ls) n w h e =
    let r = run_went 1 (add 1 clear (reading l)) ls n w (omega arith) (add_went 0 clear (reading l) tt) (sym (run_next 0 clear l ls) ∙ e) in
    (r.0, omega (arith, r.1))

pub refusal_line : (text : List ℕ) (n : ℕ) (w : Why) → drawn text ≡ refuses n w → (1 ≤ n) × (n ≤ length (lines_of text))
unfolding drawn
refusal_line text n w e = first_went (lines_of text) n w (lines_some text) e
