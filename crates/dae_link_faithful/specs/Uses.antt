-- Which queue a word of a code uses, and which an action of a stream does: takes from it, pushes into it, or reserves a slot
-- of it.
use Rattle.std.specs.Prelude.{◌≡◌, ◌≢◌, ◌↔◌, ℕ, Bool, true, false, Option, Some, None, option_and_then, List, ◌++◌}
use Rattle.std.specs.List.{AllByRecursion}
use Rattle.dae_base.specs.declared.Side.{Side}
use Rattle.dae_base.specs.declared.Depths.{Depths}
use Rattle.dae_base.specs.Budgets.{depth}
use Rattle.dae_base.specs.declared.Queue.{Queue}
use Rattle.dae_base.specs.declared.Queue.TheVariants.{Ld, Al, Sa, Sd, Cq}
use Rattle.dae_encode.specs.Instructions.{form}
use Rattle.dae_encode.specs.Spelling.{decode}
use Rattle.dae_encode.specs.Uses.{queue_use}
use Rattle.dae_encode.specs.declared.Inst.{Inst}
use Rattle.dae_encode.specs.declared.QueueUse.{QueueUse}
use Rattle.dae_encode.specs.declared.QueueUse.TheVariants.{Nothing, Take, Push, Load, StoreAddress}
use Rattle.dae_ir.specs.Code.{Each}
use Rattle.dae_ir.specs.Deeds.{told_on, heard_on}
use Rattle.dae_ir.specs.Budgets.{IsBudgetOf}
use Rattle.dae_ir.specs.Programs.{side, IsPairOf}
use Rattle.dae_ir.specs.declared.form.Ir.{Ir}
use Rattle.dae_ir.specs.declared.stream.Class.{Class}
use Rattle.dae_ir.specs.declared.stream.Pair.{Pair}
use Rattle.dae_ir.specs.Streams.{Actions, actions_of}
use Rattle.dae_ir.specs.declared.stream.Action.{Action}
use Rattle.dae_ir.specs.declared.stream.Action.TheVariants.{Issue, Own, Receive, Address, Datum, Offer, Accept, Probe, Tell, Hear}
use Rattle.dae_ir.specs.declared.stream.Branch.{Branch}
use Rattle.dae_ir.specs.declared.stream.Branch.TheVariants.{Silent, Tells, Hears}
use Rattle.dae_ir.specs.declared.stream.StreamFunction.{StreamFunction}
use Rattle.dae_select_walks.specs.Homes.{IsHome}
use Rattle.dae_select_walks.specs.Agrees.{Plan}
use Rattle.dae_select_blocks.specs.Code.{function_code, start_code, finish_code}

-- ---- words

abbrev pub queue_of : QueueUse → Option Queue
queue_of Nothing = None
queue_of (Take queue) = Some queue
queue_of (Push queue) = Some queue
queue_of (Load queue kind) = Some queue
queue_of (StoreAddress width) = Some Sa

-- the queue that an instruction uses on a side; one that is illegal there uses none
unfoldable pub queue_in : Side → Inst → Option Queue
queue_in side i = option_and_then queue_of (queue_use true side (form i))

abbrev pub queue_at : Side → ℕ → Option Queue
queue_at side w = option_and_then (queue_in side) (decode w)

-- no word of a side's code uses the queue
abbrev pub IsUnused : Side → Queue → List ℕ → Type 0
IsUnused side queue words = AllByRecursion (λ w. queue_at side w ≢ Some queue) words

-- ---- actions

-- an action uses one queue at most
abbrev pub action_queue : Bool → Action → Option Queue
action_queue by_a (Issue kind x) = Some Ld
action_queue by_a (Own v kind x) = Some Al
action_queue by_a (Receive v) = Some Ld
action_queue by_a (Address width x) = Some Sa
action_queue by_a (Datum x) = Some Sd
action_queue by_a (Offer v) = Some Cq
action_queue by_a (Accept v) = Some Cq
action_queue by_a (Probe check) = Some (told_on by_a)
action_queue by_a (Tell x) = Some (told_on by_a)
action_queue by_a (Hear only) = Some (heard_on by_a)
action_queue by_a action = None

abbrev pub branch_queue : Bool → Branch → Option Queue
branch_queue by_a (Silent t) = None
branch_queue by_a (Tells t) = Some (told_on by_a)
branch_queue by_a Hears = Some (heard_on by_a)

-- an action that the side has
abbrev pub IsOfSide : Bool → Action → Type 0
IsOfSide by_a (Issue kind x) = by_a ≡ true
IsOfSide by_a (Own v kind x) = by_a ≡ true
IsOfSide by_a (Receive v) = by_a ≡ false
IsOfSide by_a (Address width x) = by_a ≡ true
IsOfSide by_a (Datum x) = by_a ≡ false
IsOfSide by_a (Offer v) = by_a ≡ true
IsOfSide by_a (Accept v) = by_a ≡ false
IsOfSide by_a action = Unit {0}

abbrev pub AreOfSide : Bool → Actions → Type 0
AreOfSide by_a code = Each (IsOfSide by_a) (λ b. Unit {0}) code

-- no action and no branch uses the queue
abbrev pub IsUntouched : Bool → Queue → Actions → Type 0
IsUntouched by_a queue code = Each (λ a. action_queue by_a a ≢ Some queue) (λ b. branch_queue by_a b ≢ Some queue) code

-- of all functions of a stream
abbrev pub AllOfSide : Bool → List StreamFunction → Type 0
AllOfSide by_a functions = AllByRecursion (λ f. AreOfSide by_a (actions_of f.body)) functions

abbrev pub AllUntouched : Bool → Queue → List StreamFunction → Type 0
AllUntouched by_a queue functions = AllByRecursion (λ f. IsUntouched by_a queue (actions_of f.body)) functions

-- ---- what is proved

-- the instructions of a side leave the queue alone
abbrev pub LeavesAlone : Bool → Queue → List Inst → Type 0
LeavesAlone by_a queue code = AllByRecursion (λ i. queue_in (side by_a) i ≢ Some queue) code

-- the code of a function leaves a queue alone exactly where its actions do
abbrev pub CodeUses : Type 0
CodeUses =
    (plan : Plan) (variables : ℕ → ℕ) → ((f v : ℕ) → IsHome (variables f) (plan.home f v)) → (f : ℕ) (code : Actions) → AreOfSide plan.by_a code
    → (queue : Queue) → LeavesAlone plan.by_a queue (function_code plan variables f code) ↔ IsUntouched plan.by_a queue code

-- and the code that begins, with what main returns to, leaves all alone
abbrev pub StartUses : Type 0
StartUses = (plan : Plan) (main frames : ℕ) (queue : Queue) → LeavesAlone plan.by_a queue (start_code plan main frames ++ finish_code plan.by_a)

-- the actions of each stream are of its side, and a number of the budget is 0 exactly where no action of either stream uses
-- its queue
pub record IsBalanced (pair : Pair) (budget : Depths) : Type 0 where
  pub a : AllOfSide true pair.a.functions
  pub e : AllOfSide false pair.e.functions
  pub exact : (queue : Queue) → depth queue budget ≡ 0 ↔ (AllUntouched true queue pair.a.functions × AllUntouched false queue pair.e.functions)

abbrev pub PairUses : Type 0
PairUses =
    (ir : Ir) (tables : List (List Class)) (cap : ℕ) (pair : Pair) (budget : Depths) → IsPairOf ir tables cap pair → IsBudgetOf pair budget → IsBalanced pair budget
