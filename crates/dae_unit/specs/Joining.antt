-- Why files don't join, as the first cause there is; and what they join to.
use Rattle.std.specs.Prelude.{ℕ, Bool, true, false, List, Option, Some, None, nat_le, if◌then◌else◌}
use Rattle.std.specs.List.{list_any}
use Rattle.dae_base.specs.declared.Place.{Place}
use Rattle.dae_types_kinds.specs.declared.tables.EntityUse.{EntityUse}
use Rattle.dae_types_typed.specs.declared.files.FileParts.{FileParts}
use Rattle.dae_unit.specs.declared.errors.Clash.TheVariants.{Definitions, Types}
use Rattle.dae_unit.specs.declared.errors.JoinError.{JoinError}
use Rattle.dae_unit.specs.declared.errors.JoinError.TheVariants.{DefinedTwice, TypesDiffer, NotDefined, NoMain, DataTooLarge}
use Rattle.dae_unit.specs.declared.rows.FileRow.{FileRow}
use Rattle.dae_unit.specs.Linkage.{rows_of}
use Rattle.dae_unit.specs.Clashes.{first_clash, first_missing, is_main}
use Rattle.dae_unit.specs.Placing.{frames_begin}

abbrev pub place_of : FileRow → Place
place_of d = let e = d.declaration in e.place

abbrev pub twice : Option (FileRow × FileRow) → Option JoinError
twice None = None
twice (Some x) = Some (DefinedTwice (place_of x.0) (place_of x.1))

abbrev pub differing : Option (FileRow × FileRow) → Option JoinError
differing None = None
differing (Some x) = Some (TypesDiffer (place_of x.0) (place_of x.1))

abbrev pub missing : Option EntityUse → Option JoinError
missing None = None
missing (Some u) = Some (NotDefined u.place)

abbrev pub no_main : Bool → Option JoinError
no_main true = None
no_main false = Some NoMain

abbrev pub too_large : (memory end : ℕ) → Option JoinError
too_large memory end = if nat_le end memory then None else Some (DataTooLarge end)

abbrev pub or_else : Option JoinError → Option JoinError → Option JoinError
or_else None y = y
or_else (Some x) y = Some x

-- with these declarations, and where frames begin
abbrev pub cause_by : List FileParts → List FileRow → (frames memory : ℕ) → Option JoinError
cause_by files rows frames memory =
    or_else (twice (first_clash files Definitions rows))
    (or_else (differing (first_clash files Types rows))
    (or_else (missing (first_missing files rows 0 files))
    (or_else (no_main (list_any (is_main files) rows)) (too_large memory frames))))

-- the first cause why files don't join in a memory of so many bytes, or none
abbrev pub cause : List FileParts → (memory : ℕ) → Option JoinError
cause files memory = let rows = rows_of files in cause_by files rows (frames_begin files rows) memory
