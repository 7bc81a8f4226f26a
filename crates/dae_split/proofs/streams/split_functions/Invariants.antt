use Rattle.std.specs.Prelude.{take}
use Rattle.dae_ir.specs.Classes.{classes_of}
use Rattle.dae_ir.specs.Programs.{AreFunctionsOf}
use Rattle.dae_split.specs.Making.{is_a}
use Rattle.dae_split.proofs.streams.split_functions.Given as goal

abbrev pub invariant-loop-i : goal.invariant-loop-i
invariant-loop-i l = AreFunctionsOf (is_a l.side) (classes_of l.tables) l.cap 0 (take l.i l.functions) l.streams
