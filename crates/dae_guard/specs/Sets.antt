-- Sets of states of the machine: a node has a range for each register and for each word that waits.
use Rattle.std.specs.Prelude.{ℕ, List, Option}
use Rattle.dae_base.specs.declared.LoadKind.{LoadKind}
use Rattle.dae_ranges.specs.declared.Range.{Range}
use Rattle.dae_certificate.specs.declared.SideNode.{SideNode}
use Rattle.dae_guard.specs.declared.StoreCell.{StoreCell}

-- a slot: its value, or None while it waits, its address, its kind, and how many of the waiting
-- stores are older
pub record Cell : Type 0 where
  pub value : Option Range
  pub addr : Range
  pub kind : LoadKind
  pub older : ℕ

-- what waits in the queues, oldest first
pub record Waiting : Type 0 where
  pub ld : List Cell
  pub al : List Cell
  pub sa : List StoreCell
  pub sd : List Range
  pub ab : List Range
  pub eb : List Range
  pub cq : List Range

-- many states of the machine
pub record Node : Type 0 where
  pub a : SideNode
  pub e : SideNode
  pub waiting : Waiting
