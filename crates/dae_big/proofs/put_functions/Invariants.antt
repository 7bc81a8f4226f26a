use Rattle.std.proofs.Common.{◌≡◌, ◌++◌}
use Rattle.dae_big.specs.Texts.{function_line, lines_below}
use Rattle.dae_big.proofs.put_functions.Given as goal

abbrev pub invariant-loop-number : goal.invariant-loop-number
invariant-loop-number l = l.out.items ≡ l.initial.out.items ++ lines_below function_line l.number
