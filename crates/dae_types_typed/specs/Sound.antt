-- What a joiner may rely on: wherever it puts the objects that a file uses, with room for each, and whatever functions it
-- takes for those that the file calls, with as many parameters, the file's functions pass the test of a program. Each variable
-- is set before it is read. Each structure is laid out as its members say (C90 6.5.2.1). What is used is declared, and what is
-- declared is there; two names for other files are two.
use Rattle.std.specs.Prelude.{◌≡◌, ℕ, ◌+◌, ◌%◌, ◌^◌, ◌≤◌, ◌<◌, List, [], ◌∷◌, length, Option, Some, None, Bool, true, false, ◌&&◌, ◌||◌, not, nat_eq, nat_lt, slice_get, codes, filter}
use Rattle.std.specs.List.{list_all, list_any, AllByRecursion}
use Rattle.std.specs.Str.{bytes_eq}
use Rattle.dae_program.specs.Lawful.{is_lawful_body, prints_bytes}
use Rattle.dae_program.specs.SetFirst.{is_set_first}
use Rattle.dae_program.specs.Trees as tree
use Rattle.dae_program.specs.Views.{view_statements}
use Rattle.dae_types_kinds.specs.declared.types.Layout.{Layout}
use Rattle.dae_types_kinds.specs.declared.tables.Component.{Component}
use Rattle.dae_types_kinds.specs.declared.tables.Entity.{Entity}
use Rattle.dae_types_kinds.specs.declared.tables.Entity.TheVariants as entity
use Rattle.dae_types_kinds.specs.declared.tables.Routine.{Routine}
use Rattle.dae_types_kinds.specs.declared.tables.EntityUse.{EntityUse}
use Rattle.dae_types_kinds.specs.Tables.{Tables}
use Rattle.dae_types_kinds.specs.declared.types.Shape.TheVariants as shape
use Rattle.dae_types_kinds.specs.Types as types
use Rattle.dae_types_kinds.specs.Types.{shape_of, is_complete, layout, layout_of, layout_at, placed, finished}
use Rattle.dae_types_kinds.specs.Values.{object_type}
use Rattle.dae_types_plans.specs.Steps.{parameter_types}
use Rattle.dae_types_file_plans.specs.declared.declarations.FileDeclaration.{FileDeclaration}
use Rattle.dae_types_typed.specs.Linkage.{is_object, is_function, is_reference, is_library, name_in, same_name, type_in}
use Rattle.dae_types_typed.specs.declared.files.FileParts.{FileParts}
use Rattle.dae_types_typed.specs.declared.files.TypedFunction.{TypedFunction}

-- the tables of what a file declares
abbrev pub tables_of : FileParts → Tables
tables_of f =
    record {
      shapes = f.shapes;
      structures = f.structures;
      components = f.components;
      names = [];
      tags = [];
      innermost = record { names = 0; tags = 0 };
      kept_names = [];
      kept_tags = [];
      objects = f.objects;
      routines = f.routines;
      locals = [];
      storages = [];
      uses = [];
      literals = f.literals;
      main = None;
    }

-- ---- names and uses

abbrev pub bytes_or : Option (List ℕ) → List ℕ
bytes_or None = []
bytes_or (Some bytes) = bytes

-- the bytes of a name
abbrev pub bytes_of : List (List ℕ) → ℕ → List ℕ
bytes_of names n = bytes_or (slice_get names n)

abbrev pub routine_named : List (List ℕ) → Option Routine → List ℕ
routine_named names None = []
routine_named names (Some r) = bytes_of names r.name

abbrev pub is_called_main : FileParts → ℕ → Bool
is_called_main file f = bytes_eq (routine_named file.names (slice_get file.routines f)) (codes "main")

abbrev pub same_entity : Entity → Entity → Bool
same_entity (entity.Object m) (entity.Object n) = nat_eq m n
same_entity (entity.Function m) (entity.Function n) = nat_eq m n
same_entity _ _ = false

abbrev pub is_use_of : Entity → EntityUse → Bool
is_use_of e u = same_entity e u.entity

abbrev pub is_used : List EntityUse → Entity → Bool
is_used uses e = list_any (is_use_of e) uses

-- ---- what the joiner owes

-- an object of a layout has room at an address
pub record HasRoom (memory address : ℕ) (l : Layout) : Type 0 where
  pub aligned : address % l.align ≡ 0
  pub low : 16 ≤ address
  pub fits : address + l.size ≤ memory

-- the objects that a file uses have room, each at its address; among a file's objects the literals come first
abbrev pub HaveRoom : FileParts → (memory : ℕ) → (ℕ → ℕ) → Type 0
HaveRoom f memory address =
    (n : ℕ) → is_used f.uses (entity.Object n) ≡ true →
    HasRoom memory (address (length f.literals + n)) (layout_at (tables_of f) (object_type (slice_get f.objects n)))

-- the functions that a file calls have as many parameters as its declarations say
abbrev pub AreCallable : FileParts → (ℕ → Option ℕ) → Type 0
AreCallable f parameters =
    (n : ℕ) → is_used f.uses (entity.Function n) ≡ true → parameters n ≡ Some (length (parameter_types (tables_of f) n))

-- ---- what the file owes

abbrev pub function_at : (ℕ → ℕ) → TypedFunction → tree.Function
function_at address f = record {
  address = address;
  callee = λ k. 0;
  parameters = f.parameters;
  frame = f.frame;
  body = view_statements f.body;
}

-- a function has the parameters of its type; main has none, and doesn't return
abbrev pub is_sound_function : FileParts → (memory : ℕ) → (ℕ → ℕ) → (ℕ → Option ℕ) → TypedFunction → Bool
is_sound_function file memory address parameters f =
    (nat_eq (length f.parameters) (length (parameter_types (tables_of file) f.routine))
    && is_lawful_body memory f.variables parameters true (function_at address f))
    && (not (is_called_main file f.routine)
    || (nat_eq (length f.parameters) 0 && is_lawful_body memory f.variables parameters false (function_at address f)))

-- each variable of a function is set before it is read, and what a format prints itself are bytes
abbrev pub is_ready_function : TypedFunction → Bool
is_ready_function f = let g = function_at (λ n. 0) f in is_set_first g && prints_bytes g.body

-- the members of a structure, in order
abbrev pub is_member_of : ℕ → Component → Bool
is_member_of structure c = nat_eq c.structure structure

abbrev pub members_of : Tables → ℕ → List Component
members_of s n = filter (is_member_of n) s.components

abbrev pub laid_out : Tables → Layout → List Component → Layout
laid_out s l [] = finished l
laid_out s l (c ∷ cs) = laid_out s (placed l (layout_at s c.type_id)) cs

-- ---- declarations and uses

abbrev pub is_there : FileParts → Entity → Bool
is_there f (entity.Object n) = nat_lt n (length f.objects)
is_there f (entity.Function n) = nat_lt n (length f.routines)
is_there f _ = false

-- what is declared is there, and functions have the types of functions. An object that has room in its file has a complete type
-- at the end of the file (C90 6.7.2)
pub record IsSoundDeclaration (f : FileParts) (d : FileDeclaration) : Type 0 where
  pub there : is_there f d.entity ≡ true
  pub kind : types.is_function (shape_of (tables_of f) (type_in f d.entity)) ≡ is_function d.entity
  pub complete : is_object d.entity ≡ true → is_reference d.role ≡ false → is_complete (tables_of f) (type_in f d.entity) ≡ true

abbrev pub is_declared : FileParts → Entity → Bool
is_declared f e = list_any (λ (d : FileDeclaration). same_entity e d.entity) f.declarations

-- the numbers of functions with bodies, and of those that are declared other than by a reference
abbrev pub routines_in : List TypedFunction → List ℕ
routines_in [] = []
routines_in (f ∷ fs) = f.routine ∷ routines_in fs

abbrev pub before_routines : Bool → Entity → List ℕ → List ℕ
before_routines false (entity.Function n) ns = n ∷ ns
before_routines _ _ ns = ns

abbrev pub defined_routines : List FileDeclaration → List ℕ
defined_routines [] = []
defined_routines (d ∷ ds) = before_routines (is_reference d.role) d.entity (defined_routines ds)

-- ---- types

-- the type of an array stands behind that of its elements, which is complete
abbrev pub AreElementsComplete : Tables → Type 0
AreElementsComplete s = (n e : ℕ) (count : Option ℕ) → shape_of s n ≡ shape.Array e count → (e < n) × (is_complete s e ≡ true)

-- a list of parameters stands behind the list that it makes longer
abbrev pub AreChains : Tables → Type 0
AreChains s = (n before t : ℕ) → shape_of s n ≡ shape.Parameter before t → before < n

abbrev pub has_complete_type : Tables → Component → Bool
has_complete_type s c = is_complete s c.type_id

abbrev pub AreLaidOut : Tables → Type 0
AreLaidOut s = (n : ℕ) (l : Layout) → layout_of s n ≡ Some l → l ≡ laid_out s (layout 0 1) (members_of s n)

-- In a file without a broken rule a definition of a function has a body, and only that; nothing but a library's function is
-- used undeclared; main isn't called; and a name for other files stands for one object or one function.
pub record IsSound (f : FileParts) : Type 0 where
  pub bodies :
      (memory : ℕ) (address : ℕ → ℕ) (parameters : ℕ → Option ℕ) → memory ≤ 2 ^ 26 → HaveRoom f memory address → AreCallable f parameters →
      list_all (is_sound_function f memory address parameters) f.functions ≡ true
  pub ready : list_all is_ready_function f.functions ≡ true
  pub layouts : AreLaidOut (tables_of f)
  pub elements : AreElementsComplete (tables_of f)
  pub chains : AreChains (tables_of f)
  pub members : list_all (has_complete_type (tables_of f)) f.components ≡ true
  pub declarations : AllByRecursion (IsSoundDeclaration f) f.declarations
  pub functions : routines_in f.functions ≡ defined_routines f.declarations
  pub uses : (e : Entity) → is_used f.uses e ≡ true → is_declared f e ≡ true
  pub calls : (n : ℕ) → is_used f.uses (entity.Function n) ≡ true → (is_library (slice_get f.routines n) ≡ false) × (is_called_main f n ≡ false)
  pub names : (x y : Entity) → same_name (name_in f x) (name_in f y) ≡ true → x ≡ y
