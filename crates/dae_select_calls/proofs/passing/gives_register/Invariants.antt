use Rattle.std.specs.Prelude.{◌≡◌, drop}
use Rattle.dae_select_blocks.specs.Blocks.{gives_register}
use Rattle.dae_select_calls.specs.Layouts.{plan_of}
use Rattle.dae_select_calls.proofs.passing.gives_register.Given as goal

abbrev pub invariant-loop-argument : goal.invariant-loop-argument
invariant-loop-argument l =
    gives_register ((plan_of l.layouts).home l.callee) (drop l.argument-index l.arguments) l.register ≡ gives_register ((plan_of l.layouts).home l.callee) l.arguments l.register
