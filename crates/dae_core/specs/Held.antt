-- What contracts see of a processor and of the queues.
use Rattle.std.specs.Prelude.{◌≡◌, ℕ, ◌<◌, ◌^◌, Bool, List, Option, option_map, replicate, Some, None, [], if◌then◌else◌}
use Rattle.dae_base.specs.declared.Side.{Side}
use Rattle.dae_base.specs.declared.Depths.{Depths}
use Rattle.dae_base.specs.declared.Queue.{Queue}
use Rattle.dae_encode.specs.declared.QueueUse.{QueueUse}
use Rattle.dae_encode.specs.declared.Request.{Request}
use Rattle.dae_encode.specs.Processor.{Processor, After, request}
use Rattle.dae_core.specs.Moves.{granted_by}
use Rattle.dae_core.specs.Queues.{Queues}

-- a processor with its side, whether the image allows copies, and the words of its code
pub record HeldCore : Type 0 where
  pub side : Side
  pub copies : Bool
  pub code : List ℕ
  pub processor : Processor

-- what no step of a processor changes
pub record IsSame (old new : HeldCore) : Type 0 where
  pub side : new.side ≡ old.side
  pub copies : new.copies ≡ old.copies
  pub code : new.code ≡ old.code

-- what a processor's request comes to
abbrev pub granted_to : {Q : Type 0} → (Q → QueueUse → Bool) → (Q → Queue → Option ℕ) → (Q → QueueUse → ℕ → Q) → HeldCore → Q → Request → Option (After × Q)
granted_to ready front after c q asks = granted_by ready front after c.side c.processor q asks

-- what a processor asks for its next instruction, with so many bytes of common memory
abbrev pub asked_next : HeldCore → (memory : ℕ) → Request
asked_next c memory = request c.copies c.side c.code memory c.processor

-- a processor before its first instruction
abbrev pub fresh : ℕ → ℕ → Processor
fresh entry private = record { registers = replicate 32 0; counter = entry; private = replicate private 0; halt = None }

-- what an instruction comes to, from what was printed and the processor after it
abbrev pub came_to : Processor → Option (List ℕ) → Option After
came_to p r = option_map (λ piece. (p, piece)) r

-- what an instruction that prints nothing printed, where it was done
abbrev pub said_nothing : Bool → Option (List ℕ)
said_nothing done = if done then Some [] else None

-- the queues with their depths
pub record HeldQueues : Type 0 where
  pub depths : Depths
  pub queues : Queues

-- each queue has room for an item
pub record CanHold (d : Depths) : Type 0 where
  pub ld : 0 < d.ld
  pub al : 0 < d.al
  pub sa : 0 < d.sa
  pub sd : 0 < d.sd
  pub ab : 0 < d.ab
  pub eb : 0 < d.eb
  pub cq : 0 < d.cq

-- the next slot numbers and the next store number are below 2 ^ 40
pub record CanCount (q : Queues) : Type 0 where
  pub ld : q.ld.reserved < 2 ^ 40
  pub al : q.al.reserved < 2 ^ 40
  pub stores : q.stores.issued < 2 ^ 40
