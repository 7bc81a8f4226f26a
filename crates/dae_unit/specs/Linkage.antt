-- Names that several files share (C90 6.1.2.2).
use Rattle.std.specs.Prelude.{ℕ, suc, Bool, true, false, ◌&&◌, ◌||◌, List, [], ◌∷◌, ◌++◌, Option, Some, None, nat_eq, slice_get}
use Rattle.dae_types_kinds.specs.declared.tables.Entity.{Entity}
use Rattle.dae_types_file_plans.specs.declared.declarations.FileDeclaration.{FileDeclaration}
use Rattle.dae_types_file_plans.specs.declared.declarations.Role.{Role}
use Rattle.dae_types_file_plans.specs.declared.declarations.Role.TheVariants.{Definition}
use Rattle.dae_types_typed.specs.declared.files.FileParts.{FileParts}
use Rattle.dae_types_typed.specs.Linkage.{is_reference, name_in, same_name}
use Rattle.dae_types_typed.specs.Sound.{same_entity}
use Rattle.dae_unit.specs.declared.rows.FileRow.{FileRow}

-- ---- the declarations of all files, in the order of the files and of the text, behind those so far

abbrev pub rows_of_file : List FileRow → (file : ℕ) → List FileDeclaration → List FileRow
rows_of_file done k [] = done
rows_of_file done k (d ∷ ds) = rows_of_file (done ++ record { file = k; declaration = d } ∷ []) k ds

abbrev pub rows_from : List FileRow → (file : ℕ) → List FileParts → List FileRow
rows_from done k [] = done
rows_from done k (f ∷ fs) = rows_from (rows_of_file done k f.declarations) (suc k) fs

abbrev pub rows_of : List FileParts → List FileRow
rows_of files = rows_from [] 0 files

abbrev pub entity_of : FileRow → Entity
entity_of d = let e = d.declaration in e.entity

abbrev pub is_definition : Role → Bool
is_definition Definition = true
is_definition role = false

abbrev pub defines : FileRow → Bool
defines d = let e = d.declaration in is_definition e.role

abbrev pub refers : FileRow → Bool
refers d = let e = d.declaration in is_reference e.role

-- ---- names

unfoldable pub external_name : List FileParts → (file : ℕ) → Entity → Option (List ℕ)
external_name files k e = elim (slice_get files k) [ None ↦ None | Some f ↦ name_in f e ]

-- an object or a function of one file and one of another are one where they share a name; in one file each is one with itself
unfoldable pub is_one : List FileParts → (j : ℕ) → Entity → (k : ℕ) → Entity → Bool
is_one files j x k y = same_name (external_name files j x) (external_name files k y) || (nat_eq j k && same_entity x y)

-- two rows declare one object or function of one file
abbrev pub declares_same : FileRow → FileRow → Bool
declares_same d e = nat_eq d.file e.file && same_entity (entity_of d) (entity_of e)
