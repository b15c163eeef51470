use Rattle.theory.proofs.theory_stands.Goals as goal
use Rattle.theory.proofs.Standing.{all_parts}
use Rattle.theory.proofs.Museum.{museum_told, museum_lines}

pub returns : goal.returns
returns c = record { theorems = all_parts; example = museum_told; lines = museum_lines }
