-- Which variables are live: some path reads them before it sets them again. A path takes either branch of an If and any
-- number of turns of a Loop.
use Rattle.std.specs.Prelude.{ℕ, false, not, ◌&&◌, ◌||◌, nat_eq, nat_lt, nat_le, List, [], ◌∷◌, ◌++◌, Option, Some, None}
use Rattle.dae_ir.specs.Code.{Done, Do, If, Loop}
use Rattle.dae_ir.specs.Classes.{VariableSet}
use Rattle.dae_ir.specs.Streams.{Actions}
use Rattle.dae_ir.specs.declared.form.Operand.{Operand}
use Rattle.dae_ir.specs.declared.form.Operand.TheVariants.{Variable, Number}
use Rattle.dae_ir.specs.declared.form.Value.{Value}
use Rattle.dae_ir.specs.declared.form.Value.TheVariants.{Same, Extended, Binary, Holds, FrameAddress}
use Rattle.dae_ir.specs.declared.form.Test.{Test}
use Rattle.dae_ir.specs.declared.form.Check.{Check}
use Rattle.dae_ir.specs.declared.form.Check.TheVariants.{Place, InBounds, Zero, Room, Frame, Abort}
use Rattle.dae_ir.specs.declared.stream.Argument.{Argument}
use Rattle.dae_ir.specs.declared.stream.Action.{Action}
use Rattle.dae_ir.specs.declared.stream.Action.TheVariants.{Set as Compute, Issue, Own, Receive, Address, Datum, Offer, Accept, Emit, Probe, Tell, Hear, Stop, Break, Continue, Call, Return}
use Rattle.dae_ir.specs.declared.stream.Branch.{Branch}
use Rattle.dae_ir.specs.declared.stream.Branch.TheVariants.{Silent, Tells, Hears}

abbrev pub none : VariableSet
none v = false

abbrev pub with_all : VariableSet → VariableSet → VariableSet
with_all c d v = c v || d v

abbrev pub only : ℕ → VariableSet
only v u = nat_eq u v

-- ---- what is read and what is set

abbrev pub in_operand : Operand → VariableSet
in_operand (Variable v) u = nat_eq u v
in_operand (Number k) u = false

abbrev pub in_option : Option Operand → VariableSet
in_option None u = false
in_option (Some x) u = in_operand x u

abbrev pub in_test : Test → VariableSet
in_test t u = in_operand t.left u || in_operand t.right u

abbrev pub in_value : Value → VariableSet
in_value (Same x) u = in_operand x u
in_value (Extended kind x) u = in_operand x u
in_value (Binary operator x y) u = in_operand x u || in_operand y u
in_value (Holds t) u = in_test t u
in_value (FrameAddress offset) u = false

abbrev pub in_check : Check → VariableSet
in_check (Place width x) u = in_operand x u
in_check (InBounds x offset) u = in_operand x u
in_check (Zero x) u = in_operand x u
in_check (Room f) u = false
in_check Frame u = false
in_check Abort u = false

abbrev pub in_arguments : List Argument → VariableSet
in_arguments [] u = false
in_arguments (x ∷ xs) u = in_operand x.operand u || in_arguments xs u

abbrev pub reads : Action → VariableSet
reads (Compute v x) u = in_value x u
reads (Issue kind x) u = in_operand x u
reads (Own v kind x) u = in_operand x u
reads (Receive v) u = false
reads (Address width x) u = in_operand x u
reads (Datum x) u = in_operand x u
reads (Offer v) u = nat_eq u v
reads (Accept v) u = false
reads (Emit spelling x) u = in_operand x u
reads (Probe check) u = in_check check u
reads (Tell x) u = in_operand x u
reads (Hear only) u = false
reads (Stop x) u = in_option x u
reads Break u = false
reads Continue u = false
reads (Call v f xs) u = in_arguments xs u
reads (Return x) u = in_option x u

abbrev pub is : Option ℕ → VariableSet
is None u = false
is (Some v) u = nat_eq u v

abbrev pub sets : Action → VariableSet
sets (Compute v x) u = nat_eq u v
sets (Own v kind x) u = nat_eq u v
sets (Receive v) u = nat_eq u v
sets (Accept v) u = nat_eq u v
sets (Call v f xs) u = is v u
sets _ u = false

abbrev pub decided : Branch → VariableSet
decided (Silent t) u = in_test t u
decided (Tells t) u = in_test t u
decided Hears u = false

-- ---- paths

-- what is live where code goes on: behind it, behind the loop, at the loop's step
pub record LiveWays : Type 0 where
  pub next : VariableSet
  pub leaves : VariableSet
  pub skips : VariableSet

abbrev pub ways : VariableSet → VariableSet → VariableSet → LiveWays
ways next leaves skips = record { next = next; leaves = leaves; skips = skips }

abbrev pub behind : VariableSet → LiveWays → LiveWays
behind k x = record x { next = k }

-- what is live behind an action, where k is live behind it in its list
abbrev pub after : Action → VariableSet → LiveWays → VariableSet
after Break k x u = x.leaves u
after Continue k x u = x.skips u
after (Stop y) k x u = false
after (Return y) k x u = false
after a k x u = k u

abbrev pub before : Action → VariableSet → LiveWays → VariableSet
before a k x u = reads a u || (after a k x u && not (sets a u))

-- what is live before code. Round a loop nothing more comes in than one pass finds, so the pass begins with nothing
abbrev pub live : Actions → LiveWays → VariableSet
live Done x u = x.next u
live (Do m a k) x u = before a (live k x) x u
live (If m b p q k) x u = decided b u || (live p (behind (live k x) x) u || live q (behind (live k x) x) u)
live (Loop m body step k) x u =
    live body (ways (live step (ways none (live k x) none)) (live k x) (live step (ways none (live k x) none))) u

-- what is live where a loop begins a turn, and where its step begins
abbrev pub turn : Actions → Actions → VariableSet → VariableSet
turn body step k = live body (ways (live step (ways none k none)) k (live step (ways none k none)))

abbrev pub step_ways : Actions → Actions → VariableSet → LiveWays
step_ways body step k = ways (turn body step k) k (turn body step k)

abbrev pub body_ways : Actions → Actions → VariableSet → LiveWays
body_ways body step k = ways (live step (step_ways body step k)) k (live step (step_ways body step k))

-- ---- places

-- the places of code in their order, each with what is live there: what is live before it, and what is set there
abbrev pub lives : Actions → LiveWays → List VariableSet
lives Done x = []
lives (Do m a k) x = with_all (live (Do m a k) x) (sets a) ∷ lives k x
lives (If m b p q k) x =
    live (If m b p q k) x ∷ (lives p (behind (live k x) x) ++ (lives q (behind (live k x) x) ++ lives k x))
lives (Loop m body step k) x =
    live (Loop m body step k) x ∷ (lives body (body_ways body step (live k x)) ++ (lives step (step_ways body step (live k x)) ++ lives k x))

-- behind a function's code nothing is live
abbrev pub nowhere : LiveWays
nowhere = ways none none none

abbrev pub parameters_of : ℕ → VariableSet
parameters_of count v = nat_lt 0 v && nat_le v count

-- the places of a function: its entry, which sets the parameters, and those of its code
abbrev pub function_lives : ℕ → Actions → List VariableSet
function_lives parameters code = with_all (live code nowhere) (parameters_of parameters) ∷ lives code nowhere
