-- The birth of the formula that is added.
use Rattle.theory.specs.Births.{Birth}
use Rattle.formulas.specs.declared.birth.Birth.{Birth as Given}

-- as the theory has it
abbrev pub birth_of : Given → Birth
birth_of b = record { level = b.level; label = b.label; reach = b.reach; lack = b.lack }
