-- Which states of a machine a node stands for.
use Rattle.std.specs.Prelude.{◌≡◌, ℕ, ◌-◌, ◌<◌, ◌^◌, ◌⊎◌, true, List, [], ◌∷◌, length, Option, Some, None, slice_index, is_some}
use Rattle.std.specs.List.{AllByRecursion}
use Rattle.dae_base.specs.Words.{AreBytes}
use Rattle.dae_encode.specs.Processor.{Processor}
use Rattle.dae_queues.specs.declared.Slot.{Slot}
use Rattle.dae_queues.specs.declared.StoreAt.{StoreAt}
use Rattle.dae_core.specs.Queues.{Queues}
use Rattle.dae_machine.specs.declared.Pick.{Pick}
use Rattle.dae_machine.specs.Machine.{State, step, IsCounted}
use Rattle.dae_ranges.specs.declared.Range.{Range}
use Rattle.dae_ranges.specs.Ranges.{Has}
use Rattle.dae_certificate.specs.declared.SideNode.{SideNode}
use Rattle.dae_guard.specs.Sets.{Cell}
use Rattle.dae_guard.specs.declared.StoreCell.{StoreCell}
use Rattle.dae_guard.specs.Sets.{Waiting}
use Rattle.dae_guard.specs.Sets.{Node}
use Rattle.dae_guard.specs.Nodes.{range_at}
use Rattle.dae_guard.specs.Moves.{Terms}

-- item by item
abbrev pub Pairs : {X Y : Type 0} → (X → Y → Type 0) → List X → List Y → Type 0
Pairs R [] [] = Unit {0}
Pairs R [] (y ∷ ys) = ⊥
Pairs R (x ∷ xs) [] = ⊥
Pairs R (x ∷ xs) (y ∷ ys) = R x y × Pairs R xs ys

abbrev pub HasMaybe : Option Range → Option ℕ → Type 0
HasMaybe None None = Unit {0}
HasMaybe None (Some w) = ⊥
HasMaybe (Some r) None = ⊥
HasMaybe (Some r) (Some w) = Has r w

-- a slot, where so many stores were drained
pub record IsSlot (drained : ℕ) (c : Cell) (s : Slot) : Type 0 where
  pub value : HasMaybe c.value s.value
  pub addr : Has c.addr s.addr
  pub kind : c.kind ≡ s.kind
  pub older : c.older ≡ s.stamp - drained

pub record IsStore (c : StoreCell) (a : StoreAt) : Type 0 where
  pub addr : Has c.addr a.addr
  pub width : c.width ≡ a.width

pub record Wait (n : Waiting) (q : Queues) : Type 0 where
  pub ld : Pairs (IsSlot q.stores.drained) n.ld q.ld.slots
  pub al : Pairs (IsSlot q.stores.drained) n.al q.al.slots
  pub sa : Pairs IsStore n.sa q.stores.sa
  pub sd : Pairs Has n.sd q.stores.sd
  pub ab : Pairs Has n.ab q.ab
  pub eb : Pairs Has n.eb q.eb
  pub cq : Pairs Has n.cq q.cq

-- the processor stands at the counter, or has halted
abbrev pub StandsAt : Option ℕ → Processor → Type 0
StandsAt None p = is_some p.halt ≡ true
StandsAt (Some c) p = (p.halt ≡ None) × (p.counter ≡ c)

-- register 0 holds no value of its own
pub record Registers (rs : List Range) (xs : List ℕ) : Type 0 where
  pub count : length xs ≡ 32
  pub each : (r : ℕ) → 0 < r → r < 28 → Has (range_at rs r) (slice_index xs r)

pub record IsSide (private : ℕ) (n : SideNode) (p : Processor) : Type 0 where
  pub at : StandsAt n.counter p
  pub registers : Registers n.registers p.registers
  pub size : length p.private ≡ private
  pub bytes : AreBytes p.private

pub record StandsFor (t : Terms) (n : Node) (s : State) : Type 0 where
  pub a : IsSide t.private_a n.a s.a
  pub e : IsSide t.private_e n.e s.e
  pub waiting : Wait n.waiting s.queues
  pub memory : AreBytes s.memory
  pub counted : IsCounted s

-- one of these nodes stands for the state
abbrev pub AnyStands : Terms → List Node → State → Type 0
AnyStands t [] s = ⊥
AnyStands t (n ∷ ns) s = StandsFor t n s ⊎ AnyStands t ns s

-- the words of the codes are of 32 bits
pub record CodesFit (t : Terms) : Type 0 where
  pub a : AllByRecursion (λ (w : ℕ). w < 2 ^ 32) t.setup.code_a
  pub e : AllByRecursion (λ (w : ℕ). w < 2 ^ 32) t.setup.code_e

-- a pick that is enabled in the state, and leads to a state of one of these nodes
pub record Advances (t : Terms) (s : State) (ns : List Node) : Type 0 where
  pub pick : Pick
  pub state : State
  pub steps : step t.setup s pick ≡ Some state
  pub stands : AnyStands t ns state
