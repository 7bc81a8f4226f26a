-- What a typed file is, by the tables and products that the plan of a file comes to.
use Rattle.std.specs.Prelude.{◌≡◌, ℕ, List, [], ◌∷◌, length, slice_get, Option}
use Rattle.dae_base.specs.declared.Place.{Place}
use Rattle.dae_program.specs.Trees as program
use Rattle.dae_program.specs.Views.{view_settings, view_statements}
use Rattle.dae_program.specs.declared.program.FrameSlot.{FrameSlot}
use Rattle.dae_types_kinds.specs.Tables.{Tables}
use Rattle.dae_types_kinds.specs.declared.tables.Entity.TheVariants as entity
use Rattle.dae_types_plans.specs.Steps.{parameter_types}
use Rattle.dae_types_file_plans.specs.declared.declarations.FileDeclaration.{FileDeclaration}
use Rattle.dae_types_file_plans.specs.declared.declarations.Role.TheVariants.{Reference, Tentative, Definition}
use Rattle.dae_types_file_plans.specs.Files.{Product, Declares, Data, Body}
use Rattle.dae_types_typed.specs.declared.files.Datum.{Datum}
use Rattle.dae_types_typed.specs.declared.files.FileParts.{FileParts}
use Rattle.dae_types_typed.specs.declared.files.TypedFunction.{TypedFunction}
use Rattle.dae_types_typed.specs.Sound.{routine_named}
use Rattle.dae_types_typed.specs.Frames.{variables_of, slots_of, frame_of}

-- ---- products apart

abbrev pub declarations_in : List Product → List FileDeclaration
declarations_in [] = []
declarations_in (Declares d ∷ xs) = d ∷ declarations_in xs
declarations_in (Data o items ∷ xs) = declarations_in xs
declarations_in (Body f locals storages body ∷ xs) = declarations_in xs

-- the content of an object
pub record ObjectContent : Type 0 where
  pub object : ℕ
  pub settings : List program.Setting

abbrev pub contents_in : List Product → List ObjectContent
contents_in [] = []
contents_in (Declares d ∷ xs) = contents_in xs
contents_in (Data o items ∷ xs) = record { object = o; settings = items } ∷ contents_in xs
contents_in (Body f locals storages body ∷ xs) = contents_in xs

-- a function with its body. Its parameters come first among its locals
pub record WrittenFunction : Type 0 where
  pub routine : ℕ
  pub name : List ℕ
  pub parameters : List (Option FrameSlot)
  pub variables : ℕ
  pub frame : ℕ
  pub body : program.Statements

abbrev pub written_in : Tables → (spellings : List (List ℕ)) → List Product → List WrittenFunction
written_in s spellings [] = []
written_in s spellings (Declares d ∷ xs) = written_in s spellings xs
written_in s spellings (Data o items ∷ xs) = written_in s spellings xs
written_in s spellings (Body f locals storages body ∷ xs) =
    let n = length (parameter_types s f) in
    record {
      routine = f;
      name = routine_named spellings (slice_get s.routines f);
      parameters = slots_of s n locals storages;
      variables = variables_of n storages;
      frame = frame_of s locals storages;
      body = body;
    } ∷ written_in s spellings xs

-- where functions are defined
abbrev pub place_if : FileDeclaration → List Place → List Place
place_if d ps = elim d.role [ Definition ↦ elim d.entity [ entity.Function f ↦ d.place ∷ ps | _ ↦ ps ] | Reference ↦ ps | Tentative ↦ ps ]

abbrev pub places_of_bodies : List FileDeclaration → List Place
places_of_bodies [] = []
places_of_bodies (d ∷ ds) = place_if d (places_of_bodies ds)

-- ---- the file in memory

abbrev pub view_data : List Datum → List ObjectContent
view_data [] = []
view_data (d ∷ ds) = record { object = d.object; settings = view_settings d.settings } ∷ view_data ds

abbrev pub view_functions : List TypedFunction → List WrittenFunction
view_functions [] = []
view_functions (f ∷ fs) =
    record { routine = f.routine; name = f.name; parameters = f.parameters; variables = f.variables; frame = f.frame; body = view_statements f.body } ∷ view_functions fs

abbrev pub places_in : List TypedFunction → List Place
places_in [] = []
places_in (f ∷ fs) = f.place ∷ places_in fs

-- the file has what the tables and products say, and these names
pub record Reads (file : FileParts) (s : Tables) (products : List Product) (spellings : List (List ℕ)) : Type 0 where
  pub shapes : file.shapes ≡ s.shapes
  pub structures : file.structures ≡ s.structures
  pub components : file.components ≡ s.components
  pub objects : file.objects ≡ s.objects
  pub routines : file.routines ≡ s.routines
  pub declarations : file.declarations ≡ declarations_in products
  pub contents : view_data file.contents ≡ contents_in products
  pub functions : view_functions file.functions ≡ written_in s spellings products
  pub places : places_in file.functions ≡ places_of_bodies (declarations_in products)
  pub uses : file.uses ≡ s.uses
  pub names : file.names ≡ spellings
  pub literals : file.literals ≡ s.literals
