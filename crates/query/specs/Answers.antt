-- Answers as text, as a function of what was found out.
use Rattle.std.specs.Prelude.{ℕ, ◌*◌, List, [], ◌∷◌, ◌++◌, take, codes, decimal}
use Rattle.observer.specs.declared.comparison.Compared.{Compared}
use Rattle.observer.specs.declared.comparison.Compared.TheVariants.{Same, Differ, OutFull, NoMachine, Few}

-- what an answer is called
abbrev pub name_words : Compared → List ℕ
name_words Same = codes "same"
name_words (Differ d n) = codes "differ"
name_words (OutFull d n) = codes "lines full"
name_words NoMachine = codes "no machine"
name_words Few = codes "few"

-- numbers in decimal, each with a blank before it
abbrev pub after_blanks : List ℕ → List ℕ
after_blanks [] = []
after_blanks (n ∷ ns) = (32 ∷ decimal n) ++ after_blanks ns

-- how far ahead, how many lines, and the three words of each
abbrev pub details : Compared → List ℕ → List ℕ
details Same lines = []
details (Differ d n) lines = after_blanks (d ∷ n ∷ take (3 * n) lines)
details (OutFull d n) lines = after_blanks (d ∷ n ∷ [])
details NoMachine lines = []
details Few lines = []

abbrev pub answer_words : Compared → List ℕ → List ℕ
answer_words r lines = name_words r ++ details r lines
