use Rattle.std.proofs.Common.{◌≡◌, ◌++◌, map, take, string_bytes}
use Rattle.std.specs.List.{flat_map}
use Rattle.drawing.specs.Code.{planned}
use Rattle.drawing.specs.Facts.{spelled}
use Rattle.drawing.specs.Written.{line_of}
use Rattle.drawing.proofs.written.push_arrows.Given as goal

abbrev pub invariant-loop-arrow : goal.invariant-loop-arrow
invariant-loop-arrow l = string_bytes l.out ≡ string_bytes l.initial.out ++ flat_map line_of (map (spelled (planned l.drawing).states (planned l.drawing).buttons) (take l.arrow-index l.arrow-items))
