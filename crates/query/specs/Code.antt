-- What the code's values say.
use Rattle.std.specs.Prelude.{ℕ, List, ◌++◌, Ok, Err, codes, decimal, Result}
use Rattle.query.specs.declared.words.NoWords.{NoWords}
use Rattle.query.specs.Reading.{Reading, numbers, no_number}

-- what was read, where `ns` are the numbers that were left
abbrev pub meaning : Result (Unit {0}) NoWords → List ℕ → Reading
meaning (Ok x) ns = numbers ns
meaning (Err w) ns = no_number w.found.now w.place

abbrev pub refusal_words : NoWords → List ℕ
refusal_words w = codes "no words: found '" ++ (w.found.now ++ (codes "', expected a number below 4294967296, at word " ++ decimal w.place))
