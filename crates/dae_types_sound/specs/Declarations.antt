-- Whether the declarations and the uses of a file are sound, as tests one after the other.
use Rattle.std.specs.Prelude.{ℕ, Bool, true, false, ◌&&◌, ◌||◌, not, nat_eq, List, [], ◌∷◌, Option, Some, None, slice_get}
use Rattle.dae_types_kinds.specs.declared.tables.Entity.{Entity}
use Rattle.dae_types_kinds.specs.declared.tables.Entity.TheVariants as entity
use Rattle.dae_types_kinds.specs.declared.tables.EntityUse.{EntityUse}
use Rattle.dae_types_kinds.specs.Types as types
use Rattle.dae_types_kinds.specs.Types.{shape_of, is_complete}
use Rattle.dae_types_file_plans.specs.declared.declarations.FileDeclaration.{FileDeclaration}
use Rattle.dae_types_typed.specs.declared.files.FileParts.{FileParts}
use Rattle.dae_types_typed.specs.Linkage.{is_object, is_function, is_reference, is_library, type_in}
use Rattle.dae_types_typed.specs.Sound.{tables_of, is_there, is_declared, is_called_main}

abbrev pub same_flag : Bool → Bool → Bool
same_flag true b = b
same_flag false b = not b

abbrev pub is_sound_declaration : FileParts → FileDeclaration → Bool
is_sound_declaration f d =
    (is_there f d.entity && same_flag (types.is_function (shape_of (tables_of f) (type_in f d.entity))) (is_function d.entity))
    && ((not (is_object d.entity) || is_reference d.role) || is_complete (tables_of f) (type_in f d.entity))

-- the same numbers in order
abbrev pub same_numbers : List ℕ → List ℕ → Bool
same_numbers [] [] = true
same_numbers (m ∷ ms) (n ∷ ns) = nat_eq m n && same_numbers ms ns
same_numbers _ _ = false

-- the number of a function that is declared other than by a reference
abbrev pub routine_if : Bool → Entity → Option ℕ
routine_if false (entity.Function n) = Some n
routine_if _ _ = None

abbrev pub defined_routine : FileDeclaration → Option ℕ
defined_routine d = routine_if (is_reference d.role) d.entity

-- a function that is used is no library's and isn't main
abbrev pub is_callable : FileParts → Entity → Bool
is_callable f (entity.Function n) = not (is_library (slice_get f.routines n)) && not (is_called_main f n)
is_callable f _ = true

abbrev pub is_sound_use : FileParts → EntityUse → Bool
is_sound_use f u = is_declared f u.entity && is_callable f u.entity
