-- The museum's chocolate machine: the old one lets one choose after the coin, the new one has chosen by then.
use Rattle.std.specs.Prelude.{◌≡◌, ℕ, ◌<◌, true, false, List, [], ◌∷◌}
use Rattle.std.proofs.Math.Option.{some, none}
use Rattle.lts.specs.Machine.{Machine}
use Rattle.lts.specs.Question.{Question}
use Rattle.lts.specs.Formula.{Formula, top, and, dia, satisfies, depth}
use Rattle.lts.specs.Line.{Line, top_line, neg_line, and_line, dia_line, said}

-- 0 by 1 to 1, from which 2 and 3 go to 7; 4 by 1 to 5 or 6, with 2 from the one and 3 from the other to 7
abbrev pub chocolate : Machine
chocolate = record { states = 8; transitions = record { source = 0; label = 1; target = 1 } ∷ record { source = 1; label = 2; target = 7 } ∷ record { source = 1; label = 3; target = 7 } ∷ record { source = 4; label = 1; target = 5 } ∷ record { source = 4; label = 1; target = 6 } ∷ record { source = 5; label = 2; target = 7 } ∷ record { source = 6; label = 3; target = 7 } ∷ [] }

abbrev pub asked : Question
asked = record { machine = chocolate; first = 0; second = 4 }

-- 1 can be taken so that then both 2 and 3 can be
abbrev pub choice : Formula
choice = dia 1 (and (dia 2 top) (dia 3 top))

abbrev pub choice_lines : List Line
choice_lines = top_line ∷ dia_line 2 0 ∷ dia_line 3 0 ∷ and_line 1 2 ∷ dia_line 1 3 ∷ []

-- the choice holds of the old machine's start and not of the new one's; it looks d steps ahead, and no formula that looks less far tells the two apart
pub record ToldApart (d : ℕ) : Type 0 where
  pub of_the_old : satisfies chocolate choice 0 ≡ true
  pub not_of_the_new : satisfies chocolate choice 4 ≡ false
  pub ahead : depth choice ≡ d
  pub none_nearer : (f : Formula) → depth f < d → satisfies chocolate f 0 ≡ satisfies chocolate f 4

-- what the lines say; a line that uses itself says nothing
pub record AsLines : Type 0 where
  pub say_it : said choice_lines ≡ some choice
  pub none_uses_itself : said (neg_line 0 ∷ []) ≡ none
