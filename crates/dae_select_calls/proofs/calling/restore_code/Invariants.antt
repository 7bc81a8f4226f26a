use Rattle.std.specs.Prelude.{◌≡◌, ◌++◌, drop}
use Rattle.dae_select_blocks.specs.Blocks.{restore_code}
use Rattle.dae_select_calls.proofs.calling.restore_code.Given as goal

abbrev pub invariant-loop-register : goal.invariant-loop-register
invariant-loop-register l = l.code.items ++ restore_code (drop l.register-index l.registers) ≡ l.initial.code.items ++ restore_code l.registers
