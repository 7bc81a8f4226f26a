use Rattle.std.specs.Prelude.{◌↔◌, drop}
use Rattle.std.specs.List.{AllByRecursion}
use Rattle.dae_ir.specs.Scope.{IsIn}
use Rattle.dae_split_pair.proofs.names.all_in.Given as goal

abbrev pub invariant-loop-operand : goal.invariant-loop-operand
invariant-loop-operand l = AllByRecursion (IsIn l.variables) (drop l.operand-index l.operands) ↔ AllByRecursion (IsIn l.variables) l.operands
