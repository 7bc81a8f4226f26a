-- What keeps a processor from a step, and how a machine opens.
use Rattle.std.specs.Prelude.{◌≡◌, Bool, true, false, Some}
use Rattle.dae_base.specs.Budgets.{depth, first_below, Reaches}
use Rattle.dae_base.specs.declared.Side.{Side}
use Rattle.dae_base.specs.declared.Side.TheVariants.{A, E}
use Rattle.dae_base.specs.declared.Depths.{Depths}
use Rattle.dae_encode.specs.Processor.{Processor, request}
use Rattle.dae_core.specs.declared.CoreAnswer.{CoreAnswer}
use Rattle.dae_core.specs.declared.CoreAnswer.TheVariants.{Did, Waits, Halted, Faulted}
use Rattle.dae_core.specs.Moves.{answered_by, unprinted}
use Rattle.dae_core.specs.Queues.{front, ready}
use Rattle.dae_machine.specs.declared.OpenError.{OpenError}
use Rattle.dae_machine.specs.declared.OpenError.TheVariants.{DepthBelow, Memory}
use Rattle.dae_machine.specs.Machine.{Setup, State, code}

abbrev pub processor : Side → State → Processor
processor A s = s.a
processor E s = s.e

-- why the processor has no step, or Did with an empty piece where it has one
abbrev pub answer : Setup → State → Side → CoreAnswer
answer setup s side =
    unprinted (answered_by (λ q access. ready setup.depths access q) (λ q queue. front queue q) side
    (processor side s) s.queues (request setup.copies side (code setup side) setup.memory (processor side s)))

-- the refusal names the first queue whose depth is below the budget, with both numbers; memory is wanting only where each
-- depth reaches it
abbrev pub Refuses : OpenError → Depths → Depths → Type 0
Refuses (DepthBelow queue need has) budget depths =
    (first_below depths budget ≡ Some queue) × (need ≡ depth queue budget) × (has ≡ depth queue depths)
Refuses Memory budget depths = Reaches depths budget

-- the processor has a step
abbrev pub is_done : CoreAnswer → Bool
is_done (Did piece) = true
is_done (Waits k) = false
is_done Halted = false
is_done (Faulted fault) = false
