-- Where a processor stands when its side stands at a spot: at a place from which the code of the list is done, and behind it
-- the code of all that follows; and each call that waits is resumed, and then stands so.
use Rattle.std.proofs.Common.{◌≡◌, ℕ, ◌+◌, ◌*◌, Bool, true, List, [], ◌∷◌, length}
use Rattle.std.specs.Prelude.{Option, Some, is_some}
use Rattle.dae_encode.specs.Processor.{Processor}
use Rattle.dae_machine.specs.Machine.{Setup}
use Rattle.dae_ir.specs.Code.{Done, Do, If, Loop, Each}
use Rattle.dae_meaning.specs.Variables.{Env}
use Rattle.dae_ir.specs.Form.{Program}
use Rattle.dae_ir.specs.Classes.{VariableSet}
use Rattle.dae_ir.specs.Streams.{Actions}
use Rattle.dae_machine_rounds.specs.Spots.{Behind, Ends, After, Body, Turn, Spot, HeldCall}
use Rattle.dae_select_walks.specs.Walks.{WalkSetting, Comes}
use Rattle.dae_select_walks.specs.Live.{live, nowhere}
use Rattle.dae_select_walks.specs.Facts.{Facts, Hold, Outs, outs, FactsGo}
use Rattle.dae_select_walks.specs.Agrees.{Plan, Moment, CallFrame as Waiting', IsWithin}
use Rattle.dae_select_walks.specs.Compiled.{Exit, Exits, exits, with_result, IsAnswered, Lands, At as At', CodeDone, GoesBack, begins_told}
use Rattle.dae_link_faithful.specs.Made.{IsFit, AnyBranch, IsTight, IsClosed, setting_of}

-- the same of a list with what comes behind it
abbrev pub TightAt : Actions → Behind → Type 0
TightAt code Ends = IsTight code
TightAt code (After k b) = TightAt code b × TightAt k b
TightAt code (Body x y k b) = TightAt k b
TightAt code (Turn x y k b) = TightAt k b

abbrev pub ClosedAt : Actions → Behind → Type 0
ClosedAt code Ends = IsClosed code
ClosedAt code (After k b) = ClosedAt k b
ClosedAt code (Body x y k b) = ClosedAt k b
ClosedAt code (Turn x y k b) = ClosedAt k b

-- ---- at a function's end

abbrev pub Holds : Actions → Behind → Type 0 → Type 0 → Type 0
Holds Done Ends landed stands = landed
Holds Done (After k b) landed stands = stands
Holds Done (Body x y k b) landed stands = stands
Holds Done (Turn x y k b) landed stands = stands
Holds (Do m a k) b landed stands = stands
Holds (If m c x y k) b landed stands = stands
Holds (Loop m x y k) b landed stands = stands

-- the places of a loop: where a turn begins, where its step begins, behind the step, and behind the loop
pub record Around : Type 0 where
  pub begin : Exit
  pub again : Exit
  pub end : Exit
  pub next : Exit

abbrev pub body_exits : Around → Exits
body_exits l = exits l.again l.next l.again

abbrev pub step_exits : Around → Exits
step_exits l = exits l.end l.next l.end

module _ (setup : Setup) (plan : Plan) (p : Program) (body : ℕ → Actions) (most widest functions : ℕ) (answered : ℕ → Bool) where
  abbrev pub s : WalkSetting
  s = setting_of setup plan.by_a

  abbrev pub entries : ℕ → VariableSet
  entries f = live (body f) nowhere

  -- the function f runs at this moment, and the processor goes on at this place
  abbrev pub GoesOn : ℕ → Exit → Moment → Processor → Type 0
  GoesOn f x m q = At' s plan p entries most widest f x m q

  -- the code of a list is done where this is known
  abbrev pub CodeWith : ℕ → Facts → Actions → Exit → Exits → Type 0
  CodeWith f known code here x = CodeDone s plan p entries most widest f known code here x

  -- and what is to be known where it goes on is so
  pub record CodeAt (f : ℕ) (known : Facts) (code : Actions) (here : Exit) (x : Exits) (o : Outs) : Type 0 where
    pub does : CodeWith f known code here x
    pub goes : FactsGo plan.memory known code o

  -- the way back to a body
  abbrev pub BackAt : ℕ → Actions → Exit → Exit → Type 0
  BackAt f x end begin = GoesBack s plan p entries most widest f (begins_told x) end begin

  abbrev pub FitsCode : ℕ → Actions → Type 0
  FitsCode f code = Each (IsFit functions answered f) AnyBranch code

  abbrev pub FitsBehind : ℕ → Behind → Type 0
  FitsBehind f Ends = Unit {0}
  FitsBehind f (After k b) = FitsCode f k × FitsBehind f b
  FitsBehind f (Body x y k b) = FitsCode f x × FitsCode f y × FitsCode f k × FitsBehind f b
  FitsBehind f (Turn x y k b) = FitsCode f x × FitsCode f y × FitsCode f k × FitsBehind f b

  pub record LoopDone (f : ℕ) (x y k : Actions) (l : Around) (z : Exits) (o : Outs) : Type 0 where
    pub turn : Facts
    pub again : Facts
    pub next : Facts
    pub in_body : CodeAt f turn x l.begin (body_exits l) (outs again next again)
    pub in_step : CodeAt f again y l.again (step_exits l) (outs turn next turn)
    pub back : BackAt f x l.end l.begin
    pub rest : CodeAt f next k l.next z o

  -- what comes behind a list is done from where the list goes on
  abbrev pub BehindDone : ℕ → Behind → Exits → Outs → Type 0
  BehindDone f Ends x o = Unit {0}
  BehindDone f (After k b) x o =
      (next : Exit) × (z : Exits) × (x ≡ exits next z.leaves z.skips) × (known : Facts) × (out : Outs) × (o ≡ outs known out.leaves out.skips) × CodeAt f known k next z out × BehindDone f b z out
  BehindDone f (Body x y k b) e o = (l : Around) × (z : Exits) × (e ≡ body_exits l) × (out : Outs) × (d : LoopDone f x y k l z out) × (o ≡ outs d.again d.next d.again) × BehindDone f b z out
  BehindDone f (Turn x y k b) e o = (l : Around) × (z : Exits) × (e ≡ step_exits l) × (out : Outs) × (d : LoopDone f x y k l z out) × (o ≡ outs d.turn d.next d.turn) × BehindDone f b z out

  -- a point of the function f that goes on at a place, where this is known
  pub record Placed (f : ℕ) (known : Facts) (code : Actions) (behind : Behind) (here : Exit) (x : Exits) (o : Outs) : Type 0 where
    pub done : CodeAt f known code here x o
    pub next : BehindDone f behind x o
    pub fits : FitsCode f code
    pub fits_next : FitsBehind f behind
    pub tight : TightAt code behind
    pub closed : ClosedAt code behind

  abbrev pub moment : ℕ → Env → ℕ → List Waiting' → Moment
  moment f env frame ws = record { function = f; env = env; frame = frame; waiting = ws }

  -- a call of the function f waits
  pub record Waits (f : ℕ) (c : HeldCall) (w : Waiting') (ws : List Waiting') : Type 0 where
    pub here : Exit
    pub exits' : Exits
    pub known : Facts
    pub out : Outs
    pub placed : Placed w.function known c.point.code c.point.behind here exits' out
    pub facts : (result : Option ℕ) → Hold known (with_result c.result result w.env)
    pub env : w.env ≡ c.env
    pub frame : w.frame ≡ c.frame
    pub top : c.top ≡ w.frame + plan.frame w.function
    pub depth : c.depth ≡ length ws + 1
    pub within : IsWithin plan (moment w.function w.env w.frame ws)
    pub answer : is_some c.result ≡ true → answered f ≡ true
    pub resume : (result : Option ℕ) (q : Processor) → IsAnswered c.result result → Lands plan f w ws result q
        → Comes s (3 * most) q (GoesOn w.function here (moment w.function (with_result c.result result w.env) w.frame ws))

  abbrev pub AreCalls : ℕ → List HeldCall → List Waiting' → Type 0
  AreCalls f [] [] = Unit {0}
  AreCalls f [] (w ∷ ws) = ⊥
  AreCalls f (c ∷ cs) [] = ⊥
  AreCalls f (c ∷ cs) (w ∷ ws) = Waits f c w ws × AreCalls w.function cs ws

  pub record StandsAt (at' : Spot) (q : Processor) : Type 0 where
    pub function : ℕ
    pub waiting : List Waiting'
    pub here : Exit
    pub exits' : Exits
    pub known : Facts
    pub out : Outs
    pub placed : Placed function known at'.point.code at'.point.behind here exits' out
    pub facts : Hold known at'.env
    pub stands : GoesOn function here (moment function at'.env at'.frame waiting) q
    pub top : at'.top ≡ at'.frame + plan.frame function
    pub depth : at'.depth ≡ length waiting + 1
    pub calls : AreCalls function at'.calls waiting

  -- it has returned to a call, with the result that the call waits for
  pub record HasReturned (x : ℕ) (c : HeldCall) (cs : List HeldCall) (q : Processor) : Type 0 where
    pub function : ℕ
    pub first : Waiting'
    pub others : List Waiting'
    pub waits : Waits function c first others
    pub calls : AreCalls first.function cs others
    pub result : Option ℕ
    pub lands : Lands plan function first others result q
    pub answer : is_some c.result ≡ true → result ≡ Some x

  -- where main has returned nothing is said
  abbrev pub Landed : ℕ → List HeldCall → Processor → Type 0
  Landed x [] q = Unit {0}
  Landed x (c ∷ cs) q = HasReturned x c cs q

  abbrev pub At : Spot → Processor → Type 0
  At at' q = Holds at'.point.code at'.point.behind (Landed (at'.env 0) at'.calls q) (StandsAt at' q)
