-- What is proved of a whole program and its pair.
use Rattle.std.specs.Prelude.{ℕ, List, []}
use Rattle.dae_meaning.specs.Results.{Result}
use Rattle.dae_meaning.specs.Alike.{Alike, LoadsApart, AtLeast}
use Rattle.dae_meaning.specs.Variables.{Env}
use Rattle.dae_ir.specs.Classes.{Classes, classes_of}
use Rattle.dae_ir.specs.Canonical.{Sides, pair_calls_of}
use Rattle.dae_ir.specs.Programs.{program_of, start, outcome, AreClassesOf}
use Rattle.dae_ir_pair.specs.Laws.{Agree}
use Rattle.dae_ir.specs.declared.form.Ir.{Ir}
use Rattle.dae_ir.specs.declared.stream.Class.{Class}

-- main is called on both processors, where each loop makes at most n turns
abbrev pub pair_outcome : Ir → List (List Class) → ℕ → ℕ → List ℕ → Result Sides
pair_outcome ir tables cap n memory =
    pair_calls_of (program_of ir) (classes_of tables) cap n ir.calls ir.main [] [] (start ir memory)

-- the pair ends as the form does, with variables that agree, in the same world but for the loads, of which it has no more.
-- Where the form goes astray, nothing is said of the pair
abbrev pub DoesTheSame : Classes → Result Env → Result Sides → Type 0
DoesTheSame c form pair = Alike (Agree c) (LoadsApart AtLeast) form pair

abbrev pub ProgramKept : Type 0
ProgramKept =
    (ir : Ir) (tables : List (List Class)) → AreClassesOf ir tables → (cap n : ℕ) (memory : List ℕ)
    → DoesTheSame (classes_of tables ir.main) (outcome ir n memory) (pair_outcome ir tables cap n memory)
