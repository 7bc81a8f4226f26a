use Rattle.std.specs.Prelude.{◌↔◌, drop}
use Rattle.std.specs.List.{AllByRecursion}
use Rattle.dae_ir.specs.Scope.{FunctionIn}
use Rattle.dae_split_pair.proofs.scope.functions_in.Given as goal

abbrev pub invariant-loop-function : goal.invariant-loop-function
invariant-loop-function l = AllByRecursion (FunctionIn l.functions) (drop l.function-index l.functions) ↔ AllByRecursion (FunctionIn l.functions) l.functions
