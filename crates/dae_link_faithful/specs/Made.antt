-- An image whose two codes are made of the two streams of a form.
use Rattle.std.specs.Prelude.{◌≡◌, ℕ, ◌+◌, ◌*◌, ◌^◌, ◌≤◌, ◌<◌, Bool, true, false, List, [], ◌∷◌, length, slice_get, Option, Some, None, is_some}
use Rattle.std.specs.List.{AllByRecursion}
use Rattle.dae_image.specs.declared.Image.{Image}
use Rattle.dae_machine.specs.Machine.{Setup, code}
use Rattle.dae_machine.specs.Opened.{setup_of, opened}
use Rattle.dae_encode.specs.Processor.{Processor}
use Rattle.dae_ir.specs.Code.{Done, Do, If, Loop, Each}
use Rattle.dae_ir.specs.Classes.{classes_of}
use Rattle.dae_ir.specs.Form.{Form, form_of, Program}
use Rattle.dae_ir.specs.Scope.{IsScoped}
use Rattle.dae_ir.specs.SetFirst.{parameters_set, IsFunctionSetFirst}
use Rattle.dae_ir.specs.Streams.{Actions, stream_of}
use Rattle.dae_ir.specs.Budgets.{IsBudgetOf}
use Rattle.dae_ir.specs.Programs.{program_of, side, AreClassesOf, IsPairOf}
use Rattle.dae_ir.specs.declared.form.Ir.{Ir}
use Rattle.dae_ir.specs.declared.form.Function.{Function}
use Rattle.dae_ir.specs.declared.form.Item.{Item}
use Rattle.dae_ir.specs.declared.form.Item.TheVariants.{Assign, Load, Store, Print, Expect, Break as Leave, Continue as Skip, Call as Enter, Return as Give, Halt}
use Rattle.dae_ir.specs.declared.form.Operand.{Operand}
use Rattle.dae_ir.specs.declared.form.Check.TheVariants.{Place, Zero}
use Rattle.dae_ir.specs.declared.form.Test.{Test}
use Rattle.dae_ir.specs.declared.stream.Class.{Class}
use Rattle.dae_ir.specs.declared.stream.Pair.{Pair}
use Rattle.dae_machine_rounds.specs.Promises.{DoesForm}
use Rattle.dae_ir.specs.declared.stream.Action.{Action}
use Rattle.dae_ir.specs.declared.stream.Action.TheVariants.{Break, Continue, Call, Return, Stop}
use Rattle.dae_ir.specs.declared.stream.Branch.{Branch}
use Rattle.dae_select_walks.specs.Walks.{WalkSetting}
use Rattle.dae_select_walks.specs.Layout.{CodeAt}
use Rattle.dae_select_walks.specs.Live.{lives, nowhere}
use Rattle.dae_select_walks.specs.Facts.{unknown}
use Rattle.dae_select_walks.specs.Agrees.{Plan}
use Rattle.dae_select_walks.specs.declared.VariableStanding.TheVariants.{Settled}
use Rattle.dae_select_blocks.specs.Code.{code_of, start_code}
use Rattle.dae_select_blocks.specs.Sizes.{calls_in, is_short}
use Rattle.dae_select_blocks.specs.Fits.{Fits}
use Rattle.dae_select_blocks.specs.Wanted.{IsNumber, AreNumbers, IsPlanOf, IsLinked, HaveHomes, IsRight}
use Rattle.dae_select_blocks.specs.Laws.{opened_with}

-- ---- what a stream must be, that the meaning of single actions doesn't say

-- a result that is waited for is given, and a call is of a function that is there
abbrev pub IsFit : ℕ → (ℕ → Bool) → ℕ → Action → Type 0
IsFit functions answered f (Call v g xs) = (g < functions) × (is_some v ≡ true → answered g ≡ true)
IsFit functions answered f (Return y) = answered f ≡ true → is_some y ≡ true
IsFit functions answered f a = Unit {0}

abbrev pub AnyBranch : Branch → Type 0
AnyBranch b = Unit {0}

-- no Break or Continue leads out of it
abbrev pub IsTight : Actions → Type 0
IsTight Done = Unit {0}
IsTight (Do m Break k) = ⊥
IsTight (Do m Continue k) = ⊥
IsTight (Do m a k) = IsTight k
IsTight (If m b x y k) = IsTight x × IsTight y × IsTight k
IsTight (Loop m x y k) = IsTight k

-- it returns or halts, whatever it does before
abbrev pub IsClosed : Actions → Type 0
IsClosed Done = ⊥
IsClosed (Do m (Return x) k) = Unit {0}
IsClosed (Do m (Stop x) k) = Unit {0}
IsClosed (Do m a k) = IsClosed k
IsClosed (If m b x y k) = IsClosed k
IsClosed (Loop m x y k) = IsClosed k

-- of functions below a number
pub record AreWhole (functions : ℕ) (answered : ℕ → Bool) (body : ℕ → Actions) : Type 0 where
  pub fits : (f : ℕ) → f < functions → Each (IsFit functions answered f) AnyBranch (body f)
  pub tight : (f : ℕ) → f < functions → IsTight (body f)
  pub closed : (f : ℕ) → f < functions → IsClosed (body f)

-- ---- the code of one side

abbrev pub setting_of : Setup → Bool → WalkSetting
setting_of setup by_a = record { side = side by_a; copies = setup.copies; code = code setup (side by_a); memory = setup.memory }

-- the code of a function stands where it starts, and what is live at each of its places are its variables, in homes apart. A leaf
-- makes no call
pub record HasCode (s : WalkSetting) (plan : Plan) (variables : ℕ → ℕ) (f : ℕ) (code : Actions) : Type 0 where
  pub right : AllByRecursion (IsRight (plan.home f) (variables f)) (lives code nowhere)
  pub leaf : plan.leaf f ≡ true → calls_in code ≡ 0
  pub there : CodeAt s.code (plan.start f) (code_of (is_short code) plan variables f Settled unknown code nowhere 0 0)
  pub small : plan.start f + length (code_of (is_short code) plan variables f Settled unknown code nowhere 0 0) < 2 ^ 29

-- the code that begins stands at word 0, and there is room for the deepest calls
pub record HasStart (s : WalkSetting) (plan : Plan) (main frames : ℕ) : Type 0 where
  pub first : frames ≤ plan.memory
  pub deep : 1 ≤ plan.limit
  pub room : plan.limit * plan.largest ≤ plan.private
  pub finish : plan.finish ≡ length (start_code plan main frames)
  pub code : CodeAt s.code 0 (start_code plan main frames)

-- there is a plan by which the code of each function, and the code that begins, stand in the image
pub record IsSide (by_a : Bool) (p : Program) (body : ℕ → Actions) (parameters : ℕ → ℕ) (functions main frames : ℕ) (setup : Setup) (first : Processor) : Type 0 where
  pub plan : Plan
  pub variables : ℕ → ℕ
  pub side : plan.by_a ≡ by_a
  pub count : plan.functions ≡ functions
  pub fits : Fits (setting_of setup plan.by_a) plan variables
  pub is_plan : IsPlanOf p plan
  pub linked : IsLinked (setting_of setup plan.by_a) plan
  pub codes : (f : ℕ) → f < plan.functions → HasCode (setting_of setup plan.by_a) plan variables f (body f)
  pub homes : (f : ℕ) → f < plan.functions → HaveHomes plan f (parameters_set (parameters f))
  pub start : HasStart (setting_of setup plan.by_a) plan main frames
  pub opens : first ≡ opened_with plan.private

-- ---- the form

abbrev pub parameters_in : Option Function → ℕ
parameters_in None = 0
parameters_in (Some function) = function.parameters

-- what the code of both sides takes from a form
pub record IsReady (ir : Ir) : Type 0 where
  pub scoped : IsScoped ir
  pub first : AllByRecursion IsFunctionSetFirst ir.functions

abbrev pub stream : Ir → List (List Class) → ℕ → Bool → ℕ → Actions
stream ir tables cap by_a f = stream_of by_a (classes_of tables) (classes_of tables f) cap ((program_of ir).body f)

pub record IsMade (ir : Ir) (tables : List (List Class)) (cap : ℕ) (image : Image) : Type 0 where
  pub memory : image.memory ≡ ir.memory
  pub a : IsSide true (program_of ir) (stream ir tables cap true) (λ f. parameters_in (slice_get ir.functions f)) (length ir.functions) ir.main ir.frames (setup_of image image.budget) (opened image).a
  pub e : IsSide false (program_of ir) (stream ir tables cap false) (λ f. parameters_in (slice_get ir.functions f)) (length ir.functions) ir.main ir.frames
      (setup_of image image.budget) (opened image).e

-- an image that is made so of a form that is ready, with its least classes, its pair and the pair's budget, does the form
abbrev pub MadeDoesForm : Type 0
MadeDoesForm =
    (ir : Ir) (tables : List (List Class)) (cap : ℕ) (pair : Pair) (image : Image) → IsReady ir → AreClassesOf ir tables
    → IsPairOf ir tables cap pair → IsBudgetOf pair image.budget → IsMade ir tables cap image → DoesForm ir image 14
