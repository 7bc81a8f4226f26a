-- What a try to step came to.
use Rattle.std.specs.Prelude.{◌≡◌, ℕ, List, Option, Some, None}
use Rattle.dae_machine.specs.declared.Pick.{Pick}
use Rattle.dae_machine.specs.Held.{HeldMachine}
use Rattle.dae_machine.specs.Machine.{step}

-- the second machine is the first one after the step of this pick, which printed this
pub record Stepped (pick : Pick) (piece : List ℕ) (m n : HeldMachine) : Type 0 where
  pub setup : n.setup ≡ m.setup
  pub state : step m.setup m.state pick ≡ Some (record n.state { printed = piece })

-- this pick was chosen and its step was taken, or none was chosen and nothing changed
abbrev pub Tried : Option (Pick × List ℕ) → Option Pick → HeldMachine → HeldMachine → Type 0
Tried None chosen m n = (chosen ≡ None) × (n ≡ m)
Tried (Some r) chosen m n = (chosen ≡ Some r.0) × Stepped r.0 r.1 m n
