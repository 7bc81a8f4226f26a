-- What the code of a stream is.
use Rattle.std.specs.Prelude.{◌≡◌, ◌↔◌, ℕ, ◌+◌, ◌^◌, ◌≤◌, ◌<◌, true, length, slice_get, map, Option, Some, None, List}
use Rattle.std.specs.List.{AllZip}
use Rattle.dae_base.specs.declared.Queue.{Queue}
use Rattle.dae_encode.specs.declared.Inst.{Inst}
use Rattle.dae_encode.specs.Spelling.{encoded}
use Rattle.dae_machine.specs.Machine.{Setup, code}
use Rattle.dae_ir.specs.Code.{Done}
use Rattle.dae_ir.specs.Form.{Program}
use Rattle.dae_ir.specs.Streams.{Actions, actions_of}
use Rattle.dae_ir.specs.declared.stream.Stream.{Stream}
use Rattle.dae_ir.specs.declared.stream.StreamFunction.{StreamFunction}
use Rattle.dae_select_blocks.specs.Code.{start_code}
use Rattle.dae_select_blocks.specs.Laws.{opened_with}
use Rattle.dae_link_faithful.specs.Uses.{IsUnused, AllOfSide, AllUntouched}
use Rattle.dae_select_values.specs.Jumps.{is_jalr}
use Rattle.dae_select_values.specs.Sides.{is_a}
use Rattle.dae_select_calls.specs.Layouts.{plan_of, variables_of}
use Rattle.dae_select.specs.declared.growing.PlacedWord.{PlacedWord}
use Rattle.dae_select_calls.specs.declared.layouts.FunctionLayout.{FunctionLayout}
use Rattle.dae_select_calls.specs.declared.layouts.Layouts.{Layouts}
use Rattle.dae_link_faithful.specs.Made.{IsSide}
use Rattle.dae_link.specs.Placed.{functions_code, opening_code, whole_code, placed, functions_places}
use Rattle.dae_link.specs.Settled.{KeepsInRegisters}

-- a machine can have such a memory, with the frames in it, and calls so deep
pub record HasLimits (stream : Stream) : Type 0 where
  pub least : 64 ≤ stream.memory
  pub most : stream.memory ≤ 2 ^ 26
  pub frames : stream.frames ≤ stream.memory
  pub some : 1 ≤ stream.calls
  pub few : stream.calls ≤ 4096

-- ---- what a stream says of its functions

abbrev pub body_in : Option StreamFunction → Actions
body_in None = Done
body_in (Some f) = actions_of f.body

abbrev pub parameters_in : Option StreamFunction → ℕ
parameters_in None = 0
parameters_in (Some f) = f.parameters

abbrev pub frame_in : Option StreamFunction → ℕ
frame_in None = 0
frame_in (Some f) = f.frame

-- a program with such functions has this stream
pub record IsStreamIn (stream : Stream) (p : Program) (body : ℕ → Actions) (parameters : ℕ → ℕ) : Type 0 where
  pub limit : p.limit ≡ stream.calls
  pub frame : (f : ℕ) → p.frame f ≡ frame_in (slice_get stream.functions f)
  pub bodies : (f : ℕ) → body f ≡ body_in (slice_get stream.functions f)
  pub counts : (f : ℕ) → parameters f ≡ parameters_in (slice_get stream.functions f)

-- whatever program has the stream, in each machine whose code of the side are these words and which has so much private
-- memory there, the code is made of the stream
abbrev pub IsCodeOf : Stream → List ℕ → ℕ → Type 0
IsCodeOf stream words private =
    (p : Program) (body : ℕ → Actions) (parameters : ℕ → ℕ) (setup : Setup)
    → IsStreamIn stream p body parameters → code setup stream.side ≡ words → setup.memory ≡ stream.memory
    → IsSide (is_a stream.side) p body parameters (length stream.functions) stream.main stream.frames setup (opened_with private)

-- where the actions are of the side, no word uses a queue exactly where no action does
abbrev pub HasUsesOf : Stream → List ℕ → Type 0
HasUsesOf stream words =
    AllOfSide (is_a stream.side) stream.functions
    → (queue : Queue) → IsUnused stream.side queue words ↔ AllUntouched (is_a stream.side) queue stream.functions

-- ---- places

-- the functions by their layouts, where the first of them is entered at a word; their code, and the word behind it
abbrev pub placed_by : Layouts → ℕ → List StreamFunction → List FunctionLayout
placed_by all first fs = placed (plan_of all) (variables_of all) first 0 fs all.functions

abbrev pub functions_by : Layouts → List StreamFunction → List Inst
functions_by all fs = functions_code (plan_of all) (variables_of all) 0 fs

abbrev pub word_behind : Layouts → ℕ → List StreamFunction → ℕ
word_behind all first fs = first + length (functions_by all fs)

abbrev pub opening_by : Layouts → Stream → List Inst
opening_by all stream = opening_code (plan_of all) stream.main stream.frames

abbrev pub whole_by : Layouts → Stream → List Inst
whole_by all stream = whole_code (plan_of all) (variables_of all) stream.main stream.frames stream.functions

-- the functions stand in their order behind what begins and what main returns to
abbrev pub at_places : Stream → Layouts → Layouts
at_places stream all = record {
  side = all.side;
  functions = placed_by all (length (opening_by all stream)) stream.functions;
  calls = all.calls;
  finish = length (start_code (plan_of all) stream.main stream.frames);
  largest = all.largest;
  private = all.private;
  limit = all.limit;
  memory = all.memory;
  residents = all.residents;
}

-- and the last of them ends there
abbrev pub end_of : Stream → Layouts → ℕ
end_of stream all = word_behind all (length (opening_by all stream)) stream.functions

-- JALR alone enters functions only where it reaches the end of the last of them
abbrev pub IsReached : Stream → Layouts → Type 0
IsReached stream all = is_jalr all.calls ≡ true → end_of stream all < 512

-- the whole code, with the functions at their places
abbrev pub code_at : Stream → Layouts → List Inst
code_at stream all = whole_by (at_places stream all) stream

-- the words at which the actions of functions begin, the first of which is entered at a word
abbrev pub begins_by : Layouts → ℕ → List StreamFunction → List PlacedWord
begins_by all word fs = functions_places (plan_of all) (variables_of all) word 0 fs

-- and those of the whole code
abbrev pub places_by : Layouts → Stream → List PlacedWord
places_by all stream = begins_by all (length (opening_by all stream)) stream.functions

-- there are layouts by which these words are the whole code of the stream, and its actions begin at these of them
pub record HasPlaces (stream : Stream) (words : List ℕ) (places : List PlacedWord) : Type 0 where
  pub all : Layouts
  pub code : words ≡ map encoded (whole_by all stream)
  pub begins : places ≡ places_by all stream

-- ---- registers

-- there are layouts by which these words are the whole code of the stream, and no variable is in the frame of a function that
-- has registers for all of them
pub record HasRegisters (stream : Stream) (words : List ℕ) : Type 0 where
  pub all : Layouts
  pub code : words ≡ map encoded (whole_by all stream)
  pub each : AllZip KeepsInRegisters stream.functions all.functions
