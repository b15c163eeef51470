-- A statement is written on one line.
use Rattle.std.proofs.Common.{ℕ, ◌&&◌, T, eqb, List, [], ◌∷◌, ◌++◌, length, codes}
use Rattle.std.proofs.lemmas.Bool.{cond_both}
use Rattle.script.specs.Grammar.{Stated, blank, machine, start, state, arrow, bare}
use Rattle.script.specs.Printed.{lacks, writable, writable_all, written, printed}
use Rattle.script.proofs.Lacks.{and_0, and_1, lacks_append, writable_lacks}

written_one_line : (n : List ℕ) → T (writable n) → T (lacks 10 (written n))
written_one_line n h =
    let l = (writable_lacks n h).1 in
    cond_both (eqb (bare n) (length n)) n (34 ∷ (n ++ (34 ∷ []))) (λ w. T (lacks 10 w)) (λ _. l) (λ _. lacks_append 10 n (34 ∷ []) l tt)

pub printed_one_line : (s : Stated) → T (writable_all s) → T (lacks 10 (printed s))
printed_one_line blank h = tt
printed_one_line (machine n) h = written_one_line n h
printed_one_line (start n) h = written_one_line n h
printed_one_line (state n) h = written_one_line n h
printed_one_line (arrow s b t) h =
    let more = and_1 (writable s) (writable b && writable t) h in
    lacks_append 10 (written s) (codes ": " ++ (written b ++ (codes " -> " ++ written t))) (written_one_line s (and_0 (writable s) (writable b && writable t) h))
    (lacks_append 10 (written b) (codes " -> " ++ written t) (written_one_line b (and_0 (writable b) (writable t) more)) (written_one_line t (and_1 (writable b) (writable t) more)))
