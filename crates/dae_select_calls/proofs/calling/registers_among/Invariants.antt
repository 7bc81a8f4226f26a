use Rattle.std.specs.Prelude.{◌≡◌, ◌++◌, drop}
use Rattle.dae_select_live.specs.Members.{member}
use Rattle.dae_select_blocks.specs.Code.{filtered}
use Rattle.dae_select_calls.proofs.calling.registers_among.Given as goal

abbrev pub invariant-loop-register : goal.invariant-loop-register
invariant-loop-register l = l.found.items ++ filtered (member l.held) (drop l.register-index l.registers) ≡ filtered (member l.held) l.registers
