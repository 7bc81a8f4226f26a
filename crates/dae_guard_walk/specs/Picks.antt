-- What comes of a sure pick of a side, as the code of the walk keeps it.
use Rattle.std.specs.Prelude.{◌≡◌, List, map, Option, Some, option_map}
use Rattle.dae_encode.specs.declared.Inst.{Inst}
use Rattle.dae_encode.specs.Instructions.{form}
use Rattle.dae_encode.specs.Uses.{queue_use}
use Rattle.dae_ranges.specs.declared.Range.{Range}
use Rattle.dae_guard.specs.Sets.{Node, Waiting}
use Rattle.dae_guard.specs.Moves.{SideAfter, Terms, did}
use Rattle.dae_guard.specs.Waiting.{given}
use Rattle.dae_guard_walk.specs.declared.instructions.AccessStep.{AccessStep}
use Rattle.dae_guard_walk.specs.declared.instructions.Sure.{Sure}
use Rattle.dae_guard_walk.specs.declared.sides.Outcomes.{Outcomes}
use Rattle.dae_guard_walk.specs.declared.sides.SideOutcome.{SideOutcome}
use Rattle.dae_guard_walk.specs.Steps.{entered, entered_node, left_of, listed}

-- the side and what waits, after each outcome
abbrev pub afters : Waiting → Sure → List SideAfter
afters q s = map (entered s.access q) (listed s.outcomes)

-- the node after an outcome
abbrev pub node_behind : Sure → Node → SideOutcome → Node
node_behind s n o = entered_node s.side s.access n (left_of o)

-- where the access of an instruction is allowed and gives this, the outcomes are what comes of it
abbrev pub ComesOf : Terms → AccessStep → List Range → Inst → Option Outcomes → Type 0
ComesOf t s rs i r =
    (q : Waiting) → given s.access q ≡ s.given → queue_use t.setup.copies s.side (form i) ≡ Some s.access
    → option_map (λ r. map (entered s.access q) (listed r)) r ≡ did t s.side rs s.counter q s.access i (form i)

-- the nodes, after each outcome
abbrev pub nodes_after : Node → Sure → List Node
nodes_after n s = map (entered_node s.side s.access n) (listed s.outcomes)
