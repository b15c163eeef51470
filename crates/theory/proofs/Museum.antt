-- The example, by computing.
use Rattle.std.proofs.Common.{refl}
use Rattle.theory.specs.Blocks.{least}
use Rattle.theory.specs.Births.{unmatched, next_birth, settle, sweep, rounds}
use Rattle.theory.specs.Told.{demands, tell}
use Rattle.theory.specs.Museum.{MuseumTold, MuseumLines}

-- computed from the definitions
pub museum_told : MuseumTold
unfolding least unmatched next_birth settle sweep rounds
museum_told = refl

pub museum_lines : MuseumLines
unfolding least unmatched next_birth settle sweep rounds demands tell
museum_lines = refl
