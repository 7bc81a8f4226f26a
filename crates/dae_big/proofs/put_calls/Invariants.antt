use Rattle.std.proofs.Common.{◌≡◌, ◌++◌}
use Rattle.dae_big.specs.Texts.{call_line, lines_below}
use Rattle.dae_big.proofs.put_calls.Given as goal

abbrev pub invariant-loop-number : goal.invariant-loop-number
invariant-loop-number l = l.out.items ≡ l.initial.out.items ++ lines_below call_line l.number
