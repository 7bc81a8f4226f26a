-- What waits in the queues of a node, as code keeps it, and what holds of it all along.
use Rattle.std.specs.Prelude.{◌≡◌, ◌-◌, ◌<◌, ◌≤◌, ◌^◌, Bool, true, false, not, ◌&&◌, nat_eq, if◌then◌else◌, List, length, map, take, Option, Some, None}
use Rattle.std.specs.List.{All, list_any}
use Rattle.dae_encode.specs.declared.QueueUse.{QueueUse}
use Rattle.dae_encode.specs.declared.QueueUse.TheVariants.{Nothing, Take, Push, Load, StoreAddress}
use Rattle.dae_ranges.specs.declared.Range.{Range}
use Rattle.dae_ranges.specs.Ranges.{highest, loaded_range}
use Rattle.dae_guard.specs.Sets.{Cell, Waiting}
use Rattle.dae_guard.specs.declared.StoreCell.{StoreCell}
use Rattle.dae_guard.specs.Waiting.{drain_next, fill_al, fill_ld, touches}
use Rattle.dae_guard.specs.Moves.{or_else}
use Rattle.dae_guard.specs.declared.slots.LoadSlot.{LoadSlot}
use Rattle.dae_guard.specs.declared.queues.RangeQueues.{RangeQueues}

-- ---- ranges

-- a range of words, which steps up
pub record IsProper (r : Range) : Type 0 where
  pub steps : 0 < r.step
  pub words : highest r < 2 ^ 32

abbrev pub AreProper : List Range → Type 0
AreProper rs = All IsProper rs

-- ---- what waits

abbrev pub cell_of : LoadSlot → Cell
cell_of s = record {
  value = (if s.filled then Some (loaded_range s.kind) else None);
  addr = s.addr;
  kind = s.kind;
  older = s.older;
}

abbrev pub cells_of : List LoadSlot → List Cell
cells_of slots = map cell_of slots

abbrev pub waiting_of : RangeQueues → Waiting
waiting_of q = record {
  ld = cells_of q.ld.items;
  al = cells_of q.al.items;
  sa = q.sa.items;
  sd = q.sd.items;
  ab = q.ab.items;
  eb = q.eb.items;
  cq = q.cq.items;
}

-- of the older stores of a slot so many, from the oldest on, have no byte of it
pub record IsKept (sa : List StoreCell) (s : LoadSlot) : Type 0 where
  pub older : s.older ≤ length sa
  pub clear : s.clear ≤ s.older
  pub none : list_any (touches (cell_of s)) (take s.clear sa) ≡ false

abbrev pub AreKept : List StoreCell → List LoadSlot → Type 0
AreKept sa slots = All (IsKept sa) slots

pub record QueuesHold (q : RangeQueues) : Type 0 where
  pub ld : AreKept q.sa.items q.ld.items
  pub al : AreKept q.sa.items q.al.items
  pub few : length q.sa.items < 2 ^ 16
  pub ab : AreProper q.ab.items
  pub eb : AreProper q.eb.items
  pub cq : AreProper q.cq.items

-- ---- fills

-- the slot waits, and no older store has a byte of it
abbrev pub is_open : LoadSlot → Bool
is_open s = not s.filled && nat_eq s.clear s.older

-- whether some older store has a byte of the slot is known
abbrev pub IsClearTold : List StoreCell → LoadSlot → Type 0
IsClearTold sa s = not (list_any (touches (cell_of s)) (take s.older sa)) ≡ nat_eq s.clear s.older

-- a slot after its older stores were looked at
pub record Looked (sa : List StoreCell) (before after : List LoadSlot) : Type 0 where
  pub cells : cells_of after ≡ cells_of before
  pub kept : AreKept sa after
  pub told : All (IsClearTold sa) after

-- slots that are one store older
abbrev pub aged : LoadSlot → LoadSlot
aged s = record s { older = s.older - 1; clear = s.clear - 1 }

-- ---- changes that are made where they can be

-- the change was made, or can't be
abbrev pub IsMade : {X : Type 0} → Bool → Option X → X → X → Type 0
IsMade true o old new = o ≡ Some new
IsMade false o old new = (o ≡ None) × (new ≡ old)

-- after the first sure pick of memory
abbrev pub served : Waiting → Option Waiting
served w = or_else (drain_next w) (or_else (fill_al w) (fill_ld w))

-- a store address has room, whatever the depths are
abbrev pub HasRoom : QueueUse → RangeQueues → Type 0
HasRoom (StoreAddress width) q = length q.sa.items < 65535
HasRoom Nothing q = Unit {0}
HasRoom (Take k) q = Unit {0}
HasRoom (Push k) q = Unit {0}
HasRoom (Load k kind) q = Unit {0}
