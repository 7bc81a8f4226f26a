-- What contracts see of a machine, and what is true of every machine.
use Rattle.std.specs.Prelude.{◌≡◌, ℕ, ◌+◌, ◌≤◌, ◌<◌, ◌^◌, Bool, true, false, Option, Some, None, List, [], length, refl}
use Rattle.dae_base.specs.declared.Side.TheVariants.{A, E}
use Rattle.dae_encode.specs.declared.Halt.{Halt}
use Rattle.dae_encode.specs.declared.Halt.TheVariants.{Plain, Status, Trap}
use Rattle.dae_image.specs.declared.Image.{Image}
use Rattle.dae_core.specs.Held.{HeldCore, HeldQueues}
use Rattle.dae_core.specs.Queues.{Queues}
use Rattle.dae_machine.specs.Memory.{QueuesCount}
use Rattle.dae_machine.specs.Machine.{Setup, State}

-- a machine is seen as what no step changes and as its state without printed bytes: one that has printed nothing
pub record HeldMachine : Type 0 where
  pub setup : Setup
  pub state : State
  pub silent : state.printed ≡ []

-- the numbers of slots and stores are in order, and none is above the number of steps
pub record AreCounted (q : Queues) (steps : ℕ) : Type 0 where
  pub counts : QueuesCount q
  pub ld : q.ld.reserved ≤ steps
  pub al : q.al.reserved ≤ steps
  pub stores : q.stores.issued ≤ steps

-- what a machine is seen as, from its parts
abbrev pub seen : HeldCore → HeldCore → HeldQueues → List ℕ → ℕ → HeldMachine
seen a e q memory taken = record {
  setup = record { code_a = a.code; code_e = e.code; memory = length memory; copies = a.copies; depths = q.depths };
  state = record { a = a.processor; e = e.processor; queues = q.queues; memory = memory; printed = []; steps = taken };
  silent = refl;
}

-- only the access processor halts without a status or a trap
abbrev pub is_plain : Option Halt → Bool
is_plain None = false
is_plain (Some Plain) = true
is_plain (Some (Status n)) = false
is_plain (Some (Trap n)) = false

-- the processors stand on their sides, both with copies allowed or neither, the numbers are in order, the memory has
-- 32-bit addresses, and a halt of the execute processor gives an end
pub record IsSound (a e : HeldCore) (q : HeldQueues) (memory : List ℕ) (taken : ℕ) : Type 0 where
  pub on_a : a.side ≡ A
  pub on_e : e.side ≡ E
  pub same : e.copies ≡ a.copies
  pub counted : AreCounted q.queues taken
  pub small : length memory < 2 ^ 32
  pub ends : is_plain e.processor.halt ≡ false

-- the data fit the common memory, whose first 16 bytes are no data
abbrev pub DataFit : Image → Type 0
DataFit image = 16 + length image.content ≤ image.memory
