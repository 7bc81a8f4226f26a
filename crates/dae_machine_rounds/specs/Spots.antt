-- Where a side stands in its stream, and its moves from there: an action, or a way through branches, loops and calls.
use Rattle.std.specs.Prelude.{◌≡◌, ℕ, ◌+◌, Bool, true, false, List, [], ◌∷◌, length, Option, Some, None, if◌then◌else◌}
use Rattle.dae_meaning.specs.Worlds.{World}
use Rattle.dae_ir.specs.Code.{Done, Do, If, Loop}
use Rattle.dae_meaning.specs.Variables.{Env, put}
use Rattle.dae_ir.specs.Form.{Program, value, holds, fault, deeper}
use Rattle.dae_ir.specs.Streams.{Actions}
use Rattle.dae_ir.specs.Deeds.{Quit, deed, told_on, heard_on}
use Rattle.dae_ir.specs.declared.form.Operand.{Operand}
use Rattle.dae_ir.specs.declared.form.Test.{Test}
use Rattle.dae_ir.specs.declared.form.Check.TheVariants.{Room}
use Rattle.dae_ir.specs.declared.stream.Mark.{Mark}
use Rattle.dae_ir.specs.declared.stream.Argument.{Argument}
use Rattle.dae_ir.specs.declared.stream.Action.{Action}
use Rattle.dae_ir.specs.declared.stream.Action.TheVariants.{Break, Continue, Call, Return}
use Rattle.dae_ir.specs.declared.stream.Branch.TheVariants.{Silent, Tells, Hears}
use Rattle.dae_machine.specs.Uses.{Use, Takes, Pushes}
use Rattle.dae_machine_rounds.specs.Follows.{DeedOutcome, Leaves, Quits, Follows}

-- what comes behind a list of actions: nothing, where a function ends; the rest behind a branch; the step behind a body, or
-- the body again behind a step, and in both k behind the loop
pub data Behind : Type 0 where
  Ends : Behind
  After : (k : Actions) (behind : Behind) → Behind
  Body : (body step k : Actions) (behind : Behind) → Behind
  Turn : (body step k : Actions) (behind : Behind) → Behind

pub record Point : Type 0 where
  pub code : Actions
  pub behind : Behind

abbrev pub point : Actions → Behind → Point
point code behind = record { code = code; behind = behind }

-- where a Break leads, and a Continue. Where there is no loop, to the function's end
abbrev pub left : Behind → Point
left Ends = point Done Ends
left (After k b) = left b
left (Body body step k b) = point k b
left (Turn body step k b) = point k b

abbrev pub skipped : Behind → Point
skipped Ends = point Done Ends
skipped (After k b) = skipped b
skipped (Body body step k b) = point step (Turn body step k b)
skipped (Turn body step k b) = point body (Body body step k b)

-- a call that waits: the variable that gets its result, where it goes on, its variables, its frame, and its depth
pub record HeldCall : Type 0 where
  pub result : Option ℕ
  pub point : Point
  pub env : Env
  pub frame : ℕ
  pub top : ℕ
  pub depth : ℕ

pub record Spot : Type 0 where
  pub point : Point
  pub env : Env
  pub frame : ℕ
  pub top : ℕ
  pub depth : ℕ
  pub calls : List HeldCall

-- in the function that runs in this world
abbrev pub spot : Point → Env → World → List HeldCall → Spot
spot at env w calls = record { point = at; env = env; frame = w.frame; top = w.top; depth = w.depth; calls = calls }

abbrev pub waits : Option ℕ → Point → Env → World → HeldCall
waits result at env w = record { result = result; point = at; env = env; frame = w.frame; top = w.top; depth = w.depth }

abbrev pub put_some : Option ℕ → ℕ → Env → Env
put_some None x env = env
put_some (Some v) x env = put true v x env

-- behind the call
abbrev pub resumed : HeldCall → ℕ → List HeldCall → Spot
resumed c x calls = record { point = c.point; env = put_some c.result x c.env; frame = c.frame; top = c.top; depth = c.depth; calls = calls }

-- the variables at a function's entry
abbrev pub given : List Argument → Env → Env
given [] env = λ _. 0
given (x ∷ xs) env = put true x.parameter (value x.operand env) (given xs env)

-- the result is left in variable 0, where the side needs it
abbrev pub with_result : Option Operand → Env → Env
with_result None env = env
with_result (Some x) env = put true 0 (value x env) env

-- the action has a deed, and its side goes on behind it
abbrev pub is_deed : Action → Bool
is_deed Break = false
is_deed Continue = false
is_deed (Call v f xs) = false
is_deed (Return x) = false
is_deed action = true

-- a call weighs more, also by its arguments, and so does the way back behind it
abbrev pub weight_of : Actions → Behind → ℕ
weight_of Done Ends = 3
weight_of Done (After k b) = 1
weight_of Done (Body x y k b) = 1
weight_of Done (Turn x y k b) = 1
weight_of (Do m (Call v f xs) k) b = 4 + length xs
weight_of (Do m action k) b = 1
weight_of (If m branch x y k) b = 1
weight_of (Loop m x y k) b = 1

abbrev pub weight : Spot → ℕ
weight s = weight_of s.point.code s.point.behind

-- a side has come to a spot, or has halted
pub data Came : Type 0 where
  Arrives : (spot : Spot) → Came
  Halted : (quit : Quit) → Came

abbrev pub came : DeedOutcome → (Env → Spot) → Came
came (Leaves env) go = Arrives (go env)
came (Quits quit) go = Halted quit

-- how many instructions a side takes at least to begin this body again: one, but where the body itself begins with a test that
-- is told, whose message is one
abbrev pub turn_least : Actions → ℕ
turn_least (If m (Tells t) x y k) = 0
turn_least (If m Hears x y k) = 0
turn_least code = 1

-- one move, over a memory of this size, where body f is the side's code of function f. The number is how many instructions it
-- takes at least, as far as the turns of loops need it
pub data Moves (p : Program) (by_a : Bool) (size : ℕ) (body : ℕ → Actions) : ℕ → Spot → List Use → Came → Type 0 where
  acts : {m : Mark} {x : Action} {k : Actions} {b : Behind} {env : Env} {calls : List HeldCall} {uses : List Use} {o : DeedOutcome} (w : World)
      → is_deed x ≡ true → length w.memory ≡ size → Follows (deed p by_a x w env) uses o
      → Moves p by_a size body 0 (spot (point (Do m x k) b) env w calls) uses (came o (λ (env : Env). spot (point k b) env w calls))
  goes_behind : {k : Actions} {b : Behind} {env : Env} {calls : List HeldCall} (w : World)
      → Moves p by_a size body 0 (spot (point Done (After k b)) env w calls) [] (Arrives (spot (point k b) env w calls))
  ends_body : {x y k : Actions} {b : Behind} {env : Env} {calls : List HeldCall} (w : World)
      → Moves p by_a size body 0 (spot (point Done (Body x y k b)) env w calls) [] (Arrives (spot (point y (Turn x y k b)) env w calls))
  ends_step : {x y k : Actions} {b : Behind} {env : Env} {calls : List HeldCall} (w : World)
      → Moves p by_a size body (turn_least x) (spot (point Done (Turn x y k b)) env w calls) [] (Arrives (spot (point x (Body x y k b)) env w calls))
  breaks : {m : Mark} {k : Actions} {b : Behind} {env : Env} {calls : List HeldCall} (w : World)
      → Moves p by_a size body 0 (spot (point (Do m Break k) b) env w calls) [] (Arrives (spot (left b) env w calls))
  continues : {m : Mark} {k : Actions} {b : Behind} {env : Env} {calls : List HeldCall} (w : World)
      → Moves p by_a size body 1 (spot (point (Do m Continue k) b) env w calls) [] (Arrives (spot (skipped b) env w calls))
  branches : {m : Mark} {t : Test} {x y k : Actions} {b : Behind} {env : Env} {calls : List HeldCall} (w : World)
      → Moves p by_a size body 0 (spot (point (If m (Silent t) x y k) b) env w calls) [] (Arrives (spot (point (if holds t env then x else y) (After k b)) env w calls))
  tells : {m : Mark} {t : Test} {x y k : Actions} {b : Behind} {env : Env} {calls : List HeldCall} (w : World)
      → Moves p by_a size body 1 (spot (point (If m (Tells t) x y k) b) env w calls) (Pushes (told_on by_a) (if holds t env then 1 else 0) ∷ [])
      (Arrives (spot (point (if holds t env then x else y) (After k b)) env w calls))
  hears : {m : Mark} {x y k : Actions} {b : Behind} {env : Env} {calls : List HeldCall} (w : World) (told : Bool)
      → Moves p by_a size body 1 (spot (point (If m Hears x y k) b) env w calls) (Takes (heard_on by_a) (if told then 1 else 0) ∷ [])
      (Arrives (spot (point (if told then x else y) (After k b)) env w calls))
  enters : {m : Mark} {x y k : Actions} {b : Behind} {env : Env} {calls : List HeldCall} (w : World)
      → Moves p by_a size body 0 (spot (point (Loop m x y k) b) env w calls) [] (Arrives (spot (point x (Body x y k b)) env w calls))
  calls_it : {m : Mark} {v : Option ℕ} {f : ℕ} {xs : List Argument} {k : Actions} {b : Behind} {env : Env} {calls : List HeldCall} (w : World) → length w.memory ≡ size → fault p (Room f) w env ≡ None
      → Moves p by_a size body 0 (spot (point (Do m (Call v f xs) k) b) env w calls) [] (Arrives (spot (point (body f) Ends) (given xs env) (deeper p f w) (waits v (point k b) env w ∷ calls)))
  returns : {m : Mark} {x : Option Operand} {k : Actions} {b : Behind} {env : Env} {calls : List HeldCall} (w : World)
      → Moves p by_a size body 0 (spot (point (Do m (Return x) k) b) env w calls) [] (Arrives (spot (point Done Ends) (with_result x env) w calls))
  goes_back : {c : HeldCall} {env : Env} {calls : List HeldCall} (w : World) → Moves p by_a size body 0 (spot (point Done Ends) env w (c ∷ calls)) [] (Arrives (resumed c (env 0) calls))
