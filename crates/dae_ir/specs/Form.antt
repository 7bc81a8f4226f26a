-- What the structured form does.
use Rattle.std.specs.Prelude.{ℕ, zero, suc, ◌+◌, Bool, true, ◌||◌, nat_eq, nat_lt, List, [], ◌∷◌, ◌++◌, length, Option, Some, None, if◌then◌else◌}
use Rattle.dae_base.specs.Words.{plus, extended, loaded, stored, width_of}
use Rattle.dae_base.specs.declared.Place.{Place}
use Rattle.dae_base.specs.declared.Width.{Width}
use Rattle.dae_base.specs.declared.Width.TheVariants.{B1}
use Rattle.dae_meaning.specs.Worlds.{World, ticked, fetched, back}
use Rattle.dae_meaning.specs.Variables.{Env, put, entered}
use Rattle.dae_meaning.specs.Results.{Result, At, Over, Next, Leaves, Skips, Returns, Halted, Astray, Run, within, checked}
use Rattle.dae_ir.specs.Code.{Code, Done, Do, If, Loop, CodeMeaning, exec, every}
use Rattle.dae_meaning.specs.Operations.{combined, compared, spelled, misplaced, passed}
use Rattle.dae_ir.specs.declared.form.Operand.{Operand}
use Rattle.dae_ir.specs.declared.form.Operand.TheVariants.{Variable, Number}
use Rattle.dae_ir.specs.declared.form.Value.{Value}
use Rattle.dae_ir.specs.declared.form.Value.TheVariants.{Same, Extended, Binary, Holds, FrameAddress}
use Rattle.dae_meaning.specs.declared.Spelling.{Spelling}
use Rattle.dae_ir.specs.declared.form.Test.{Test}
use Rattle.dae_ir.specs.declared.form.Check.{Check}
use Rattle.dae_ir.specs.declared.form.Check.TheVariants.{Place as Good, InBounds, Zero, Room, Frame, Abort}
use Rattle.dae_ir.specs.declared.form.Item.{Item}
use Rattle.dae_ir.specs.declared.form.Item.TheVariants.{Assign, Load, Store, Print, Expect, Break, Continue, Call, Return, Halt}
use Rattle.dae_ir.specs.declared.form.Statement.{Statement, Simple, If', Loop', Row_of-Statement, end_of-Statement, more_of-Statement}

-- a list of statements, each with the place that it comes from
abbrev pub Form : Type 0
Form = Code Place Item Test

-- the form of statements, and then k
abbrev mutual
  pub before : Statement → Form → Form
  before (Simple place item) k = Do place item k
  before (If' place test s p t q) k = If place test (row p Done) (row q Done) k
  before (Loop' place s body t step) k = Loop place (row body Done) (row step Done) k

  pub row : {m : _} → Row_of-Statement m → Form → Form
  row end_of-Statement k = k
  row (more_of-Statement s rest) k = before s (row rest k)

abbrev pub form_of : List Statement → Form
form_of [] = Done
form_of (s ∷ ss) = before s (form_of ss)

-- each item passes the test
abbrev pub all_items : (Item → Bool) → Form → Bool
all_items f code = every f (λ t. true) code

-- a program: each function's code and the size of its frame, and the most calls inside one another
pub record Program : Type 0 where
  pub body : ℕ → Form
  pub frame : ℕ → ℕ
  pub limit : ℕ

-- ---- variables and values

abbrev pub value : Operand → Env → ℕ
value (Variable v) env = env v
value (Number k) env = k

abbrev pub values : List Operand → Env → List ℕ
values [] env = []
values (x ∷ xs) env = value x env ∷ values xs env

abbrev pub holds : Test → Env → Bool
holds t env = compared t.comparison (value t.left env) (value t.right env)

abbrev pub computed : Value → ℕ → Env → ℕ
computed (Same x) frame env = value x env
computed (Extended kind x) frame env = extended kind (value x env)
computed (Binary operator x y) frame env = combined operator (value x env) (value y env)
computed (Holds t) frame env = if holds t env then 1 else 0
computed (FrameAddress offset) frame env = plus frame offset

-- ---- checks

-- the code of the trap, if the check fails
abbrev pub fault : Program → Check → World → Env → Option ℕ
fault p (Good width x) w env = misplaced width (value x env) (length w.memory)
fault p (InBounds x offset) w env = misplaced B1 (plus (value x env) offset) (length w.memory)
fault p (Zero x) w env = if nat_eq (value x env) 0 then Some 1 else None
fault p (Room f) w env = passed (nat_lt p.limit (w.depth + 1) || nat_lt (length w.memory) (w.top + p.frame f))
fault p Frame w env = passed (nat_lt (length w.memory) w.top)
fault p Abort w env = Some 5

-- ---- memory and output

abbrev pub with_stored : Width → ℕ → ℕ → World → World
with_stored width address x w =
    record w { memory = stored width address x w.memory; items = w.items + 1; stores = w.stores + 1 }

abbrev pub with_printed : Spelling → ℕ → World → World
with_printed spelling x w = record w { printed = w.printed ++ spelled spelling x; items = w.items + 1 }

-- ---- calls

-- what a call does with its arguments: its result is in variable 0 of the variables that it ends with
abbrev pub Calls : Type 0
Calls = ℕ → List ℕ → World → Result Env

-- a call's frame stands on top of its caller's
abbrev pub deeper : Program → ℕ → World → World
deeper p f w = record w { frame = w.top; top = w.top + p.frame f; depth = w.depth + 1 }

-- a call counts as two items, and one for each argument
abbrev pub called : {X : Type 0} → List X → World → World
called xs w = record w { items = w.items + (2 + length xs) }

-- a call has ended: the caller's variables get its result, or the whole ends
abbrev pub ended : {E F : Type 0} → (F → E) → World → Result F → Result E
ended got old (At way e w) = At Next (got e) (back old w)
ended got old (Over end w) = Over end w

-- ---- what items and functions do

-- the loads into variables of a set are counted
abbrev pub does : Program → (ℕ → Bool) → Calls → Item → Run Env
does p counted calls (Assign v x) env w = At Next (put true v (computed x w.frame env) env) (ticked w)
does p counted calls (Load v kind x) env w =
    within (misplaced (width_of kind) (value x env) (length w.memory)) w
    (At Next (put true v (loaded kind (value x env) w.memory) env) (fetched (counted v) w))
does p counted calls (Store width x y) env w =
    within (misplaced width (value x env) (length w.memory)) w (At Next env (with_stored width (value x env) (value y env) w))
does p counted calls (Print spelling x) env w = At Next env (with_printed spelling (value x env) w)
does p counted calls (Expect check) env w = checked (fault p check w env) env (ticked w)
does p counted calls Break env w = At Leaves env (ticked w)
does p counted calls Continue env w = At Skips env (ticked w)
does p counted calls (Call v f xs) env w =
    within (fault p (Room f) w env) w (ended (λ (e : Env). put true v (e 0) env) w (calls f (values xs env) (called xs w)))
does p counted calls (Return x) env w = At Returns (put true 0 (value x env) env) (ticked w)
does p counted calls (Halt x) env w = Over (Halted (value x env)) (ticked w)

abbrev pub meaning : Program → (ℕ → Bool) → Calls → CodeMeaning Item Test Env
meaning p counted calls = record { does = does p counted calls; holds = holds }

-- at most n turns of each loop, and at most limit calls inside one another
abbrev pub calls_of : Program → (ℕ → ℕ → Bool) → ℕ → ℕ → Calls
calls_of p counted n zero f xs w = Over Astray w
calls_of p counted n (suc limit) f xs w =
    exec (meaning p (counted f) (calls_of p counted n limit)) n (p.body f) (entered (λ _. true) 1 xs) (deeper p f w)

-- each load is counted
abbrev pub all_loads : ℕ → ℕ → Bool
all_loads f v = true
