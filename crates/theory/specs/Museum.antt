-- The museum's chocolate machine as an example of the list: what is told of its two states.
use Rattle.std.specs.Prelude.{◌≡◌}
use Rattle.lts.specs.Museum.{chocolate, asked, choice, choice_lines}
use Rattle.theory.specs.Births.{births}
use Rattle.theory.specs.Rows.{first_formula}
use Rattle.theory.specs.Told.{told}

-- of the old machine and not of the new: the coin can be put in so that then either can be chosen
abbrev pub MuseumTold : Type 0
MuseumTold = first_formula chocolate (births chocolate) 0 4 ≡ choice

-- in just these lines
abbrev pub MuseumLines : Type 0
MuseumLines = told asked ≡ choice_lines
