-- What a form must be, so that the pair and its code may be made: each variable, function and loop that it names is there,
-- constants are words, variable 0 gets a function's result alone, no code falls off its end, and main halts.
use Rattle.std.specs.Prelude.{◌≡◌, ℕ, ◌<◌, ◌^◌, Bool, true, false, not, ◌||◌, List, length, slice_get, Option, Some, None, IsTrue}
use Rattle.std.specs.List.{AllByRecursion}
use Rattle.dae_ir.specs.Code.{Done, Do, If, Loop, Each, every}
use Rattle.dae_ir.specs.Form.{Form, form_of}
use Rattle.dae_ir.specs.Rounds.{stays}
use Rattle.dae_ir.specs.declared.form.Operand.{Operand}
use Rattle.dae_ir.specs.declared.form.Operand.TheVariants.{Variable, Number}
use Rattle.dae_ir.specs.declared.form.Value.{Value}
use Rattle.dae_ir.specs.declared.form.Value.TheVariants.{Same, Extended, Binary, Holds, FrameAddress}
use Rattle.dae_ir.specs.declared.form.Test.{Test}
use Rattle.dae_ir.specs.declared.form.Check.{Check}
use Rattle.dae_ir.specs.declared.form.Check.TheVariants.{Place, InBounds, Zero, Room, Frame, Abort}
use Rattle.dae_ir.specs.declared.form.Item.{Item}
use Rattle.dae_ir.specs.declared.form.Item.TheVariants.{Assign, Load, Store, Print, Expect, Break, Continue, Call, Return, Halt}
use Rattle.dae_ir.specs.declared.form.Function.{Function}
use Rattle.dae_ir.specs.declared.form.Ir.{Ir}

-- the variables are below n, and the numbers are words
abbrev pub IsIn : ℕ → Operand → Type 0
IsIn n (Variable v) = v < n
IsIn n (Number k) = k < 2 ^ 32

-- a variable that may be set otherwise than by a return, which alone sets variable 0
abbrev pub IsTarget : ℕ → ℕ → Type 0
IsTarget n v = (0 < v) × (v < n)

abbrev pub TestIn : ℕ → Test → Type 0
TestIn n t = IsIn n t.left × IsIn n t.right

abbrev pub ValueIn : ℕ → Value → Type 0
ValueIn n (Same x) = IsIn n x
ValueIn n (Extended kind x) = IsIn n x
ValueIn n (Binary operator x y) = IsIn n x × IsIn n y
ValueIn n (Holds t) = TestIn n t
ValueIn n (FrameAddress offset) = offset < 2 ^ 32

-- the byte that is checked is as far behind an address as an immediate of an instruction says: less than 2048
abbrev pub CheckIn : ℕ → ℕ → Check → Type 0
CheckIn functions n (Place width x) = IsIn n x
CheckIn functions n (InBounds x offset) = IsIn n x × (offset < 2048)
CheckIn functions n (Zero x) = IsIn n x
CheckIn functions n (Room f) = f < functions
CheckIn functions n Frame = Unit {0}
CheckIn functions n Abort = Unit {0}

-- a call gives as many arguments as the function has parameters
abbrev pub TakesArguments : Option Function → ℕ → Type 0
TakesArguments None count = ⊥
TakesArguments (Some function) count = count ≡ function.parameters

abbrev pub ItemIn : List Function → ℕ → Item → Type 0
ItemIn functions n (Assign v x) = IsTarget n v × ValueIn n x
ItemIn functions n (Load v kind x) = IsTarget n v × IsIn n x
ItemIn functions n (Store width x y) = IsIn n x × IsIn n y
ItemIn functions n (Print spelling x) = IsIn n x
ItemIn functions n (Expect check) = CheckIn (length functions) n check
ItemIn functions n Break = Unit {0}
ItemIn functions n Continue = Unit {0}
ItemIn functions n (Call v f xs) = IsTarget n v × TakesArguments (slice_get functions f) (length xs) × AllByRecursion (IsIn n) xs
ItemIn functions n (Return x) = IsIn n x
ItemIn functions n (Halt x) = IsIn n x

abbrev pub is_return : Item → Bool
is_return (Return x) = true
is_return item = false

abbrev pub is_end : Item → Bool
is_end (Return x) = true
is_end (Halt x) = true
is_end item = false

-- there is a return or a halt in the code's own list, so that its end isn't reached
abbrev pub closes : Form → Bool
closes Done = false
closes (Do place item k) = is_end item || closes k
closes (If place t p q k) = closes k
closes (Loop place body step k) = closes k

abbrev pub never_returns : Form → Bool
never_returns code = every (λ item. not (is_return item)) (λ t. true) code

-- the result and the parameters are variables, no Break or Continue is outside of a loop, and the end isn't reached
pub record FunctionIn (functions : List Function) (function : Function) : Type 0 where
  pub parameters : function.parameters < function.variables
  pub names : Each (ItemIn functions function.variables) (TestIn function.variables) (form_of function.body)
  pub loops : IsTrue (stays false (form_of function.body))
  pub ends : IsTrue (closes (form_of function.body))

-- main has no parameters, and ends by a halt alone
abbrev pub IsMain : Option Function → Type 0
IsMain None = ⊥
IsMain (Some function) = (function.parameters ≡ 0) × IsTrue (never_returns (form_of function.body))

pub record IsScoped (ir : Ir) : Type 0 where
  pub main : IsMain (slice_get ir.functions ir.main)
  pub functions : AllByRecursion (FunctionIn ir.functions) ir.functions
