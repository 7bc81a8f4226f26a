-- Whole programs: what a form does, and which pair of streams is a form's.
use Rattle.std.specs.Prelude.{◌≡◌, ℕ, ◌+◌, Bool, true, false, List, [], ◌∷◌, slice_get, Option, Some, None}
use Rattle.dae_base.specs.declared.Side.{Side}
use Rattle.dae_base.specs.declared.Side.TheVariants.{A, E}
use Rattle.dae_meaning.specs.Worlds.{World}
use Rattle.dae_meaning.specs.Results.{Result, At, Over, End, Halted}
use Rattle.dae_ir.specs.Code.{Done}
use Rattle.dae_meaning.specs.Variables.{Env}
use Rattle.dae_ir.specs.Form.{Form, form_of, Program, calls_of, all_loads}
use Rattle.dae_ir.specs.Classes.{Classes, classes_of, AreLeast}
use Rattle.dae_ir.specs.Streams.{stream_of, actions_of}
use Rattle.dae_ir.specs.declared.form.Function.{Function}
use Rattle.dae_ir.specs.declared.form.Ir.{Ir}
use Rattle.dae_ir.specs.declared.stream.Class.{Class}
use Rattle.dae_ir.specs.declared.stream.StreamFunction.{StreamFunction}
use Rattle.dae_ir.specs.declared.stream.Stream.{Stream}
use Rattle.dae_ir.specs.declared.stream.Pair.{Pair}

-- ---- what a form does

abbrev pub body_in : Option Function → Form
body_in None = Done
body_in (Some function) = form_of function.body

abbrev pub frame_in : Option Function → ℕ
frame_in None = 0
frame_in (Some function) = function.frame

abbrev pub program_of : Ir → Program
program_of ir = record {
  body = λ f. body_in (slice_get ir.functions f);
  frame = λ f. frame_in (slice_get ir.functions f);
  limit = ir.calls;
}

-- before main is called, with this common memory
abbrev pub start : Ir → List ℕ → World
start ir memory = record {
  memory = memory;
  printed = [];
  frame = ir.frames;
  top = ir.frames;
  depth = 0;
  items = 0;
  loads = 0;
  stores = 0;
}

-- main is called, where each loop makes at most n turns
abbrev pub outcome : Ir → ℕ → List ℕ → Result Env
outcome ir n memory = calls_of (program_of ir) all_loads n ir.calls ir.main [] (start ir memory)

-- how the program ends: by a halt or a trap, or else with the result of main
abbrev pub end_of : Result Env → End
end_of (At way env w) = Halted (env 0)
end_of (Over end w) = end

-- ---- the classes of a form

abbrev pub AreClassesOf : Ir → List (List Class) → Type 0
AreClassesOf ir tables = AreLeast (program_of ir) (classes_of tables)

-- ---- the pair of a form

pub record IsFunctionOf (by_a : Bool) (of : ℕ → Classes) (c : Classes) (cap : ℕ) (f : Function) (g : StreamFunction) : Type 0 where
  pub name : g.name ≡ f.name
  pub parameters : g.parameters ≡ f.parameters
  pub variables : g.variables ≡ f.variables
  pub frame : g.frame ≡ f.frame
  pub body : actions_of g.body ≡ stream_of by_a of c cap (form_of f.body)

-- the functions from k on
abbrev pub AreFunctionsOf : Bool → (ℕ → Classes) → ℕ → ℕ → List Function → List StreamFunction → Type 0
AreFunctionsOf by_a of cap k [] [] = Unit {0}
AreFunctionsOf by_a of cap k [] (g ∷ gs) = ⊥
AreFunctionsOf by_a of cap k (f ∷ fs) [] = ⊥
AreFunctionsOf by_a of cap k (f ∷ fs) (g ∷ gs) =
    IsFunctionOf by_a of (of k) cap f g × AreFunctionsOf by_a of cap (k + 1) fs gs

abbrev pub side : Bool → Side
side true = A
side false = E

pub record IsStreamOf (by_a : Bool) (of : ℕ → Classes) (cap : ℕ) (ir : Ir) (s : Stream) : Type 0 where
  pub side : s.side ≡ side by_a
  pub memory : s.memory ≡ ir.memory
  pub frames : s.frames ≡ ir.frames
  pub calls : s.calls ≡ ir.calls
  pub main : s.main ≡ ir.main
  pub functions : AreFunctionsOf by_a of cap 0 ir.functions s.functions

pub record IsPairOf (ir : Ir) (tables : List (List Class)) (cap : ℕ) (pair : Pair) : Type 0 where
  pub a : IsStreamOf true (classes_of tables) cap ir pair.a
  pub e : IsStreamOf false (classes_of tables) cap ir pair.e
