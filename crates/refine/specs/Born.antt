-- The code's births are the theory's.
use Rattle.std.proofs.Math.Option as theory
use Rattle.std.specs.Prelude.{Some, None, Option}
use Rattle.theory.specs.Births as births
use Rattle.formulas.specs.declared.birth.Birth.{Birth}

abbrev pub birth_of : Birth → births.Birth
birth_of b = record { level = b.level; label = b.label; reach = b.reach; lack = b.lack }

abbrev pub birth_in : Option Birth → theory.Option births.Birth
birth_in None = theory.none
birth_in (Some b) = theory.some (birth_of b)
