-- What keeps files from joining: definitions, types, uses and main.
use Rattle.std.specs.Prelude.{ℕ, suc, Bool, true, false, ◌&&◌, not, List, [], ◌∷◌, Option, Some, None, nat_eq, slice_get, find, codes}
use Rattle.std.specs.List.{list_any}
use Rattle.dae_types_kinds.specs.declared.tables.Entity.{Entity}
use Rattle.dae_types_kinds.specs.declared.tables.Entity.TheVariants as entity
use Rattle.dae_types_kinds.specs.declared.tables.EntityUse.{EntityUse}
use Rattle.dae_types_typed.specs.declared.files.FileParts.{FileParts}
use Rattle.dae_types_typed.specs.Linkage.{is_function, is_library, same_name, type_in}
use Rattle.dae_unit.specs.declared.errors.Clash.{Clash}
use Rattle.dae_unit.specs.declared.errors.Clash.TheVariants.{Definitions, Types}
use Rattle.dae_unit.specs.declared.rows.FileRow.{FileRow}
use Rattle.dae_unit.specs.Linkage.{external_name, is_one, entity_of, defines, refers}
use Rattle.dae_unit.specs.Across.{same_across}

-- ---- two declarations of one name

abbrev pub name_of : List FileParts → FileRow → Option (List ℕ)
name_of files d = external_name files d.file (entity_of d)

abbrev pub shares_name : List FileParts → FileRow → FileRow → Bool
shares_name files d e = same_name (name_of files d) (name_of files e)

abbrev pub same_types : Option FileParts → Option FileParts → (x y : Entity) → Bool
same_types (Some f) (Some g) x y = same_across f g (type_in f x) (type_in g y)
same_types _ _ x y = true

-- within one file the rules of types have seen to that
abbrev pub types_differ : List FileParts → FileRow → FileRow → Bool
types_differ files d e =
    not (nat_eq d.file e.file) && not (same_types (slice_get files d.file) (slice_get files e.file) (entity_of d) (entity_of e))

unfoldable pub clashes : List FileParts → Clash → FileRow → FileRow → Bool
clashes files Definitions d e = (defines d && defines e) && shares_name files d e
clashes files Types d e = shares_name files d e && types_differ files d e

-- the first declaration that clashes with a later one, and the first of those
abbrev pub first_clash : List FileParts → Clash → List FileRow → Option (FileRow × FileRow)
first_clash files clash [] = None
first_clash files clash (d ∷ ds) = elim (find (clashes files clash d) ds) [ None ↦ first_clash files clash ds | Some e ↦ Some (d, e) ]

-- ---- uses of what no file defines; a tentative definition counts as one

abbrev pub is_library_in : Option FileParts → Entity → Bool
is_library_in (Some f) (entity.Function r) = is_library (slice_get f.routines r)
is_library_in _ e = false

unfoldable pub gives : List FileParts → (file : ℕ) → Entity → FileRow → Bool
gives files k e d = not (refers d) && is_one files k e d.file (entity_of d)

unfoldable pub is_missing : List FileParts → List FileRow → (file : ℕ) → EntityUse → Bool
is_missing files rows k u = not (is_library_in (slice_get files k) u.entity) && not (list_any (gives files k u.entity) rows)

abbrev pub first_missing : List FileParts → List FileRow → (file : ℕ) → List FileParts → Option EntityUse
first_missing files rows k [] = None
first_missing files rows k (f ∷ fs) = elim (find (is_missing files rows k) f.uses) [ None ↦ first_missing files rows (suc k) fs | Some u ↦ Some u ]

-- ---- main

-- a definition of the function main that other files know
unfoldable pub is_main : List FileParts → FileRow → Bool
is_main files d = (defines d && is_function (entity_of d)) && same_name (name_of files d) (Some (codes "main"))
