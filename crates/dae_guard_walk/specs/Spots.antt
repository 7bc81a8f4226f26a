-- The nodes that the code of the walk keeps, and what holds of them all along.
use Rattle.std.specs.Prelude.{◌≡◌, ℕ, ℤ, true, List, map, reverse}
use Rattle.dae_encode.specs.declared.Inst.{Inst}
use Rattle.dae_encode.specs.declared.Inst.TheVariants.{Slli}
use Rattle.dae_ranges.specs.declared.Range.{Range}
use Rattle.dae_ranges.specs.Ranges.{is_single}
use Rattle.dae_certificate.specs.declared.SideNode.{SideNode}
use Rattle.dae_guard.specs.Sets.{Node}
use Rattle.dae_guard.specs.Kept.{AreProper, QueuesHold, waiting_of}
use Rattle.dae_guard_walk.specs.declared.sides.SideSpot.{SideSpot}
use Rattle.dae_guard_walk.specs.declared.walking.NodeSpot.{NodeSpot}

-- the second source of a shift by an immediate is the zero of x0
abbrev pub ShiftsOne : Inst → Range → Type 0
ShiftsOne i y = (rd first : ℕ) (imm : ℤ) → i ≡ Slli rd first imm → is_single y ≡ true

-- ---- which node it is

abbrev pub side_of : SideSpot → SideNode
side_of s = record { counter = s.counter; registers = s.ranges }

abbrev pub node_of : NodeSpot → Node
node_of s = record { a = side_of s.a; e = side_of s.e; waiting = waiting_of s.queues }

-- the nodes of a stack, the last one first
abbrev pub nodes_of : List NodeSpot → List Node
nodes_of spots = map node_of (reverse spots)

-- ---- what holds along a walk

pub record Holds (s : NodeSpot) : Type 0 where
  pub a : AreProper s.a.ranges
  pub e : AreProper s.e.ranges
  pub queues : QueuesHold s.queues
