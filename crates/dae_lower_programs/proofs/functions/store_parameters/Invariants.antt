use Rattle.std.proofs.Common.{◌≡◌, ◌+◌, drop}
use Rattle.dae_lower.specs.Lowering.{parameters_stored}
use Rattle.dae_lower_expressions.specs.Lowered.{state_of}
use Rattle.dae_lower_programs.proofs.Laws.{Leads}
use Rattle.dae_lower_programs.proofs.functions.store_parameters.Given as goal

abbrev pub invariant-loop-slot : goal.invariant-loop-slot
invariant-loop-slot l =
    (l.number ≡ l.slot-index + 1) × Leads (parameters_stored l.place l.slots 1) (parameters_stored l.place (drop l.slot-index l.slots) l.number) (state_of l.initial.lowerer) (state_of l.lowerer)
