-- Refusals of two drawings in plain words.
use Rattle.std.specs.Prelude.{ℕ, List, ◌++◌, codes, decimal}
use Rattle.beside.specs.declared.Trouble.{Trouble}
use Rattle.beside.specs.declared.Trouble.TheVariants.{TooManyStates, TooManyArrows, TooManyButtons, Memory}

abbrev pub trouble_words : Trouble → List ℕ
trouble_words (TooManyStates n) = codes "the two drawings together have " ++ (decimal n ++ codes " states; at most 4,096 can be compared")
trouble_words (TooManyArrows n) = codes "the two drawings together have " ++ (decimal n ++ codes " transitions; at most 16,384 can be compared")
trouble_words (TooManyButtons n) = codes "the two drawings together have " ++ (decimal n ++ codes " different buttons; at most 64 can be compared")
trouble_words Memory = codes "not enough memory for the two drawings"
