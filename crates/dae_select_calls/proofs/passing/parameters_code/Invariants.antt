use Rattle.std.specs.Prelude.{◌≡◌, ◌++◌, drop}
use Rattle.dae_select_blocks.specs.Blocks.{parameters_code}
use Rattle.dae_select_calls.specs.Makings.{plan_by}
use Rattle.dae_select_calls.proofs.passing.parameters_code.Given as goal

abbrev pub invariant-loop-index : goal.invariant-loop-index
invariant-loop-index l = l.code.items ≡ l.fn.code.items ++ parameters_code (plan_by l.making) l.making.function l.callee (drop l.index l.arguments)
