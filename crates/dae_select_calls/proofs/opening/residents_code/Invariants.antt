use Rattle.std.specs.Prelude.{◌≡◌, ◌++◌, drop}
use Rattle.dae_select_blocks.specs.Blocks.{residents_code}
use Rattle.dae_select_calls.proofs.opening.residents_code.Given as goal

abbrev pub invariant-loop-number : goal.invariant-loop-number
invariant-loop-number l = l.code.items ++ residents_code l.register (drop l.number-index l.residents) ≡ l.initial.code.items ++ residents_code 27 l.residents
