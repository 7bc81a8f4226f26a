-- What an instruction leaves, as the code of the walk keeps it.
use Rattle.std.specs.Prelude.{◌≡◌, ℕ, Bool, true, false, ◌&&◌, nat_le, ◌==◌, if◌then◌else◌, List, [], ◌∷◌, ◌++◌, map, Option, Some, None, IfSome, option_map}
use Rattle.dae_base.specs.declared.Side.{Side}
use Rattle.dae_base.specs.declared.Side.TheVariants.{A, E}
use Rattle.dae_base.specs.Words.{plus}
use Rattle.dae_encode.specs.declared.Inst.{Inst}
use Rattle.dae_encode.specs.declared.QueueUse.{QueueUse}
use Rattle.dae_ranges.specs.declared.Range.{Range}
use Rattle.dae_ranges.specs.Ranges.{single, is_single, decided}
use Rattle.dae_certificate.specs.declared.SideNode.{SideNode}
use Rattle.dae_guard.specs.Sets.{Node, Waiting}
use Rattle.dae_guard.specs.Nodes.{range_at, source, with_range}
use Rattle.dae_guard.specs.Waiting.{after_use}
use Rattle.dae_guard.specs.Moves.{SideAfter, Terms, moved_a, moved_e, narrowed, on, or_else}
use Rattle.dae_guard.specs.Moves as moves
use Rattle.dae_guard_walk.specs.declared.kinds.TestInstruction.{TestInstruction}
use Rattle.dae_guard_walk.specs.declared.sides.ComputeFields.{ComputeFields}
use Rattle.dae_guard_walk.specs.declared.sides.SideOutcome.{SideOutcome}
use Rattle.dae_guard_walk.specs.declared.sides.Outcomes.{Outcomes}
use Rattle.dae_guard_walk.specs.declared.sides.SideSpot.{SideSpot}
use Rattle.dae_guard_walk.specs.Kinds.{compares, goes_by, order_of, told_by}
use Rattle.dae_guard.specs.Kept.{AreProper, IsProper}
use Rattle.dae_guard_walk.specs.Spots.{nodes_of, side_of}

-- a side, and what goes into its queue
abbrev pub Left : Type 0
Left = SideNode × Range

abbrev pub left_of : SideOutcome → Left
left_of o = (side_of o.side, o.pushed)

abbrev pub second_left : Option SideOutcome → List Left
second_left None = []
second_left (Some o) = left_of o ∷ []

abbrev pub listed : Outcomes → List Left
listed o = left_of o.first ∷ second_left o.second

-- an outcome in the words of the definitions, with its result in the target
abbrev pub told_of : ℕ → moves.MoveOutcome → Left
told_of rd o = (on o.counter (with_range rd o.value o.registers), o.value)

-- what an instruction that computes leaves, where it is sure
abbrev pub computed : Inst → (counter : ℕ) → ComputeFields → (given : Range) → List Range → Option (List Left)
computed i c f w rs =
    option_map (map (told_of f.target)) (moves.outcomes_by (moves.shape i) i c f.first f.second (source rs w f.first) (source rs w f.second) rs)

-- what waits after the access, with what goes in
abbrev pub entered : QueueUse → Waiting → Left → SideAfter
entered access q l = (l.0, after_use access l.1 q)

pub record IsFine (o : SideOutcome) : Type 0 where
  pub ranges : AreProper o.side.ranges
  pub pushed : IsProper o.pushed

pub record AreFine (o : Outcomes) : Type 0 where
  pub first : IsFine o.first
  pub second : IfSome o.second IsFine

-- ---- tests

-- after a test that came out so
abbrev pub told_by_test : TestInstruction → ℕ → ℕ → List Range → Bool → Left
told_by_test k c rd rs b =
    (on (plus c (goes_by k.offset b)) (with_range rd (single (told_by k.offset b)) rs), single (told_by k.offset b))

abbrev pub either_told : TestInstruction → ℕ → ComputeFields → List Range → Range → Range → Option Bool → List Left
either_told k c f rs x y (Some b) = told_by_test k c f.target rs b ∷ []
either_told k c f rs x y None =
    told_by_test k c f.target (narrowed (order_of k.test) false f.first f.second x y rs) false
    ∷ (told_by_test k c f.target (narrowed (order_of k.test) true f.first f.second x y rs) true ∷ [])

abbrev pub tested_by : TestInstruction → ℕ → ComputeFields → List Range → Range → Range → List Left
tested_by k c f rs x y = either_told k c f rs x y (decided (compares k.test) x y)

-- ---- the stack of the walk

-- the nodes after one were put on the stack, or there are none
abbrev pub GoesOn : Bool → Option (List Node) → List Node → List Node → Type 0
GoesOn true o old new = (ns : List Node) × (o ≡ Some ns) × (new ≡ ns ++ old)
GoesOn false o old new = o ≡ None

-- ---- calls

-- what an environment call leaves, where it is sure
abbrev pub called_of : Side → ℕ → List Range → Option (List Left)
called_of A c rs = Some ((record { counter = None; registers = rs }, single 0) ∷ [])
called_of E c rs =
    let what = range_at rs 17 in
    if is_single what && nat_le what.lo 5
    then Some ((
      record {
        counter = (if what.lo == 0 then None else (if what.lo == 5 then None else Some (plus c 4)));
        registers = rs;
      },
      single 0,
    ) ∷ [])
    else None

-- ---- nodes

-- the nodes after a sure pick of E, or else of A
abbrev pub stepped : Terms → Node → Option (List Node)
stepped t n = or_else (moved_e t n) (moved_a t n)

-- the node after an access of a side and what is left
abbrev pub entered_node : Side → QueueUse → Node → Left → Node
entered_node A access n l = record { a = l.0; e = n.e; waiting = after_use access l.1 n.waiting }
entered_node E access n l = record { a = n.a; e = l.0; waiting = after_use access l.1 n.waiting }
