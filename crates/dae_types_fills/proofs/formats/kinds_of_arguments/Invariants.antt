use Rattle.std.proofs.Common.{◌≡◌, ◌++◌, drop}
use Rattle.dae_types_file_plans.specs.Formats.{letters}
use Rattle.dae_types_fills.proofs.formats.kinds_of_arguments.Given as goal

abbrev pub invariant-loop-piece : goal.invariant-loop-piece
invariant-loop-piece l = l.kinds.items ++ letters (drop l.piece-index l.pieces) ≡ letters l.fn.pieces
