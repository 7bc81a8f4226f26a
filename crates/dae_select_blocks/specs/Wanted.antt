-- What a stream must be for its code to do it: actions of its side, numbers that are words, variables of the function.
use Rattle.std.specs.Prelude.{◌≡◌, ◌≢◌, ℕ, ◌+◌, ◌^◌, ◌<◌, Bool, true, false, ◌||◌, nat_eq, List, [], ◌∷◌, length, Option, Some, None}
use Rattle.dae_ir.specs.Classes.{VariableSet}
use Rattle.dae_ir.specs.Form.{Program}
use Rattle.dae_ir.specs.declared.form.Operand.{Operand}
use Rattle.dae_ir.specs.declared.form.Operand.TheVariants.{Variable, Number}
use Rattle.dae_ir.specs.declared.form.Value.{Value}
use Rattle.dae_ir.specs.declared.form.Value.TheVariants.{Same, Extended, Binary, Holds, FrameAddress}
use Rattle.dae_ir.specs.declared.form.Check.{Check}
use Rattle.dae_ir.specs.declared.form.Check.TheVariants.{Place, InBounds, Zero, Room, Frame, Abort}
use Rattle.dae_ir.specs.declared.stream.Argument.{Argument}
use Rattle.dae_ir.specs.declared.stream.Action.{Action}
use Rattle.dae_ir.specs.declared.stream.Action.TheVariants.{Set as Compute, Issue, Own, Receive, Address, Datum, Offer, Accept, Emit, Probe, Tell, Hear, Stop, Break, Continue, Call, Return}
use Rattle.dae_ir.specs.declared.stream.Branch.{Branch}
use Rattle.dae_ir.specs.declared.stream.Branch.TheVariants.{Silent, Tells, Hears}
use Rattle.dae_select_walks.specs.declared.Home.{Home}
use Rattle.dae_select_walks.specs.declared.Home.TheVariants.{Register}
use Rattle.dae_select_walks.specs.Homes.{AreApart, resident_home, resident_register}
use Rattle.dae_select_walks.specs.Walks.{WalkSetting}
use Rattle.dae_select_walks.specs.Agrees.{Plan}
use Rattle.dae_select_blocks.specs.Code.{entry_code, finish_code}
use Rattle.dae_select_walks.specs.Layout.{CodeAt}

-- numbers in code are words
abbrev pub IsNumber : Operand → Type 0
IsNumber (Variable v) = Unit {0}
IsNumber (Number n) = n < 2 ^ 32

abbrev pub AreNumbers : Value → Type 0
AreNumbers (Same x) = IsNumber x
AreNumbers (Extended kind x) = IsNumber x
AreNumbers (Binary operator x y) = IsNumber x × IsNumber y
AreNumbers (Holds t) = IsNumber t.left × IsNumber t.right
AreNumbers (FrameAddress offset) = offset < 2 ^ 32

abbrev pub IsWantedCheck : Bool → Check → Type 0
IsWantedCheck by_a (Place width x) = (by_a ≡ true) × IsNumber x
IsWantedCheck by_a (InBounds x offset) = (by_a ≡ true) × IsNumber x × (offset < 2048)
IsWantedCheck by_a (Zero x) = IsNumber x
IsWantedCheck by_a (Room f) = by_a ≡ true
IsWantedCheck by_a Frame = by_a ≡ true
IsWantedCheck by_a Abort = by_a ≡ true

abbrev pub IsWantedStop : Bool → Option Operand → Type 0
IsWantedStop true None = Unit {0}
IsWantedStop true (Some x) = ⊥
IsWantedStop false None = ⊥
IsWantedStop false (Some x) = IsNumber x

abbrev pub IsWantedResult : Option Operand → Type 0
IsWantedResult None = Unit {0}
IsWantedResult (Some x) = IsNumber x

abbrev pub AreGiven : List Argument → Type 0
AreGiven [] = Unit {0}
AreGiven (x ∷ xs) = IsNumber x.operand × AreGiven xs

-- an argument for each variable that the function reads at its entry
abbrev pub gives : List Argument → VariableSet
gives [] u = false
gives (x ∷ xs) u = nat_eq u x.parameter || gives xs u

-- these variables of a function have homes of their own, in which no number stays, and which it doesn't spare
pub record HaveHomes (plan : Plan) (f : ℕ) (given : VariableSet) : Type 0 where
  pub apart : AreApart (plan.home f) given
  pub free : (u n r : ℕ) → given u ≡ true → resident_register (resident_home 27 plan.residents n) ≡ Some r → plan.home f u ≢ Register r
  pub unspared : (u r : ℕ) → given u ≡ true → plan.spares f r ≡ true → plan.home f u ≢ Register r

-- a call is of a function that is there, gives an argument for each variable that the function reads at its entry, its parameters have homes of their
-- own, and no leaf makes it
abbrev pub IsWanted : Plan → Bool → (ℕ → VariableSet) → Bool → Action → Type 0
IsWanted plan copies entries leaf (Compute v x) = AreNumbers x
IsWanted plan copies entries leaf (Issue kind x) = (plan.by_a ≡ true) × IsNumber x
IsWanted plan copies entries leaf (Own v kind x) = (plan.by_a ≡ true) × IsNumber x
IsWanted plan copies entries leaf (Receive v) = plan.by_a ≡ false
IsWanted plan copies entries leaf (Address width x) = (plan.by_a ≡ true) × IsNumber x
IsWanted plan copies entries leaf (Datum x) = (plan.by_a ≡ false) × IsNumber x
IsWanted plan copies entries leaf (Offer v) = (plan.by_a ≡ true) × (copies ≡ true)
IsWanted plan copies entries leaf (Accept v) = (plan.by_a ≡ false) × (copies ≡ true)
IsWanted plan copies entries leaf (Emit spelling x) = (plan.by_a ≡ false) × IsNumber x
IsWanted plan copies entries leaf (Probe check) = IsWantedCheck plan.by_a check
IsWanted plan copies entries leaf (Tell x) = IsNumber x
IsWanted plan copies entries leaf (Hear only) = Unit {0}
IsWanted plan copies entries leaf (Stop x) = IsWantedStop plan.by_a x
IsWanted plan copies entries leaf Break = Unit {0}
IsWanted plan copies entries leaf Continue = Unit {0}
IsWanted plan copies entries leaf (Call v f xs) = AreGiven xs × (f < plan.functions) × ((u : ℕ) → entries f u ≡ true → gives xs u ≡ true) × HaveHomes plan f (gives xs) × (leaf ≡ false)
IsWanted plan copies entries leaf (Return x) = IsWantedResult x

abbrev pub IsWantedBranch : Branch → Type 0
IsWantedBranch (Silent t) = IsNumber t.left × IsNumber t.right
IsWantedBranch (Tells t) = IsNumber t.left × IsNumber t.right
IsWantedBranch Hears = Unit {0}

-- the program of the meaning has the plan's call limit and frames
pub record IsPlanOf (program : Program) (plan : Plan) : Type 0 where
  pub limit : program.limit ≡ plan.limit
  pub frame : (f : ℕ) → program.frame f ≡ plan.frame f

-- where the functions stand: each is entered at its entry code, below word 512 where one instruction enters it, and its actions
-- begin behind that
pub record IsLinked (s : WalkSetting) (plan : Plan) : Type 0 where
  pub entry : (g : ℕ) → g < plan.functions → CodeAt s.code (plan.entry g) (entry_code plan g)
  pub start : (g : ℕ) → g < plan.functions → plan.start g ≡ plan.entry g + length (entry_code plan g)
  pub near : (g : ℕ) → g < plan.functions → plan.start g < 2 ^ 29
  pub close : (g : ℕ) → g < plan.functions → plan.near ≡ true → plan.entry g < 512
  pub finish : CodeAt s.code plan.finish (finish_code plan.by_a)
  pub low : plan.finish + 3 < 2 ^ 29

-- at one place of a function with so many variables: what is live are its variables, in homes of their own
pub record IsRight (home : ℕ → Home) (variables : ℕ) (lives : VariableSet) : Type 0 where
  pub apart : AreApart home lives
  pub scope : (u : ℕ) → lives u ≡ true → u < variables
