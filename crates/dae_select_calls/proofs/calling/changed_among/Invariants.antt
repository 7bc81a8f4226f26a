use Rattle.std.specs.Prelude.{◌≡◌, ◌++◌, not, drop}
use Rattle.dae_select_blocks.specs.Code.{filtered}
use Rattle.dae_select_calls.specs.Layouts.{plan_of}
use Rattle.dae_select_calls.proofs.calling.changed_among.Given as goal

abbrev pub invariant-loop-register : goal.invariant-loop-register
invariant-loop-register l =
    l.found.items ++ filtered (λ r. not ((plan_of l.layouts).spares l.callee r)) (drop l.register-index l.registers) ≡ filtered (λ r. not ((plan_of l.layouts).spares l.callee r)) l.registers
