-- Names by which other files know a file's objects and functions (C90 6.1.2.2), and the types of these at the end of the file.
use Rattle.std.specs.Prelude.{ℕ, Bool, true, false, ◌||◌, List, Option, Some, None, is_some, if◌then◌else◌, slice_get}
use Rattle.std.specs.Str.{bytes_eq}
use Rattle.dae_types_kinds.specs.declared.tables.Entity.{Entity}
use Rattle.dae_types_kinds.specs.declared.tables.Entity.TheVariants as entity
use Rattle.dae_types_kinds.specs.declared.tables.StaticObject.{StaticObject}
use Rattle.dae_types_kinds.specs.declared.tables.Routine.{Routine}
use Rattle.dae_types_kinds.specs.Types.{void_id}
use Rattle.dae_types_kinds.specs.Values.{object_type}
use Rattle.dae_types_file_plans.specs.declared.declarations.Role.{Role}
use Rattle.dae_types_file_plans.specs.declared.declarations.Role.TheVariants.{Reference}
use Rattle.dae_types_typed.specs.declared.files.FileParts.{FileParts}

abbrev pub is_object : Entity → Bool
is_object (entity.Object o) = true
is_object _ = false

abbrev pub is_function : Entity → Bool
is_function (entity.Function r) = true
is_function _ = false

abbrev pub is_reference : Role → Bool
is_reference Reference = true
is_reference role = false

abbrev pub is_library : Option Routine → Bool
is_library None = false
is_library (Some r) = is_some r.library

-- ---- names

abbrev pub object_name : FileParts → Option StaticObject → Option (List ℕ)
object_name f None = None
object_name f (Some o) = if o.own then None else slice_get f.names o.name

-- the functions of a header are names of no file
abbrev pub routine_name : FileParts → Option Routine → Option (List ℕ)
routine_name f None = None
routine_name f (Some r) = if r.own || is_some r.library then None else slice_get f.names r.name

-- the name by which other files know an object or a function, where they do
abbrev pub name_in : FileParts → Entity → Option (List ℕ)
name_in f (entity.Object o) = object_name f (slice_get f.objects o)
name_in f (entity.Function r) = routine_name f (slice_get f.routines r)
name_in f (entity.Local n) = None
name_in f (entity.Type n) = None
name_in f (entity.Enumerator w) = None

abbrev pub same_name : Option (List ℕ) → Option (List ℕ) → Bool
same_name (Some x) (Some y) = bytes_eq x y
same_name _ _ = false

-- ---- types

abbrev pub routine_type : Option Routine → ℕ
routine_type None = void_id
routine_type (Some r) = r.type_id

-- the type that a file gives an object or a function, at its end
abbrev pub type_in : FileParts → Entity → ℕ
type_in f (entity.Object o) = object_type (slice_get f.objects o)
type_in f (entity.Function r) = routine_type (slice_get f.routines r)
type_in f (entity.Local n) = void_id
type_in f (entity.Type n) = void_id
type_in f (entity.Enumerator w) = void_id
