-- How a machine ends, and what one turn comes to.
use Rattle.std.specs.Prelude.{◌≡◌, ℕ, Option, Some, None}
use Rattle.dae_encode.specs.declared.Halt.{Halt}
use Rattle.dae_encode.specs.declared.Halt.TheVariants.{Plain, Status, Trap}
use Rattle.dae_machine.specs.declared.Pick.{Pick}
use Rattle.dae_machine.specs.declared.End.{End}
use Rattle.dae_machine.specs.declared.End.TheVariants.{Ended, Trapped}
use Rattle.dae_machine.specs.declared.Rest.{Rest}
use Rattle.dae_machine.specs.declared.Rest.TheVariants.{Final as IsFinalRest, Stuck as IsStuckRest}
use Rattle.dae_machine.specs.declared.Turn.{Turn}
use Rattle.dae_machine.specs.declared.Turn.TheVariants.{Stepped, Final, Stuck}
use Rattle.dae_machine.specs.Machine.{Setup, State, step, IsFinal, IsStuck}
use Rattle.dae_machine.specs.Turns.{pick_of}

-- the end that the execute processor's halt gives
abbrev pub end_of : Option Halt → Option End
end_of (Some (Status n)) = Some (Ended n)
end_of (Some (Trap n)) = Some (Trapped n)
end_of (Some Plain) = None
end_of None = None

-- the answer tells how the machine rests. None: some pick is enabled
abbrev pub Rests : Option Rest → Setup → State → Type 0
Rests None setup s = (p : Pick) × (t : State) × (step setup s p ≡ Some t)
Rests (Some (IsFinalRest end)) setup s = IsFinal setup s × (end_of s.e.halt ≡ Some end)
Rests (Some IsStuckRest) setup s = IsStuck setup s

-- the turn took the pick that the word selects and came to the second state, or no pick is enabled and nothing changed
abbrev pub TurnedTo : Turn → ℕ → Setup → State → State → Type 0
TurnedTo (Stepped pick piece) word setup s t = (pick_of setup s word ≡ Some pick) × (step setup s pick ≡ Some (record t { printed = piece }))
TurnedTo (Final end) word setup s t = IsFinal setup s × (end_of s.e.halt ≡ Some end) × (t ≡ s)
TurnedTo Stuck word setup s t = IsStuck setup s × (t ≡ s)
