use Rattle.std.specs.Prelude.{◌≡◌, ◌++◌, drop}
use Rattle.dae_select_blocks.specs.Blocks.{save_code}
use Rattle.dae_select_calls.proofs.calling.save_code.Given as goal

abbrev pub invariant-loop-register : goal.invariant-loop-register
invariant-loop-register l = l.code.items ++ save_code (drop l.register-index l.registers) ≡ l.initial.code.items ++ save_code l.registers
