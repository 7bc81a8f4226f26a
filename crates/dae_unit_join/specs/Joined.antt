-- What files join to.
use Rattle.std.specs.Prelude.{◌≡◌, ◌⊎◌, ℕ, List, [], Some, None}
use Rattle.dae_types_typed.specs.declared.files.FileParts.{FileParts}
use Rattle.dae_unit.specs.declared.errors.JoinError.{JoinError}
use Rattle.dae_unit.specs.declared.errors.JoinError.TheVariants.{Memory}
use Rattle.dae_unit_join.specs.declared.parts.ProgramParts.{ProgramParts}
use Rattle.dae_unit.specs.declared.rows.FileRow.{FileRow}
use Rattle.dae_unit.specs.Linkage.{rows_of}
use Rattle.dae_unit.specs.Placing.{first_place, placed_rows, object_layouts, rooms_of, places_from, end_from, frames_begin}
use Rattle.dae_unit.specs.Meanings.{bodies_of, links_of, main_from, functions_from}
use Rattle.dae_unit_join.specs.Contents.{content_of}
use Rattle.dae_unit.specs.Joining.{cause}

-- the declarations that give room
abbrev pub placed_in : List FileParts → List FileRow
placed_in files = placed_rows files [] (rows_of files)

abbrev pub places_in : List FileParts → List ℕ
places_in files = places_from first_place [] (rooms_of files (placed_in files))

abbrev pub objects_end : List FileParts → ℕ
objects_end files = end_from first_place (object_layouts files [] (placed_in files))

-- by the declarations that give room and the places
pub record IsMadeOf (files : List FileParts) (placed : List FileRow) (places : List ℕ) (end frames : ℕ) (p : ProgramParts) : Type 0 where
  pub content : p.content ≡ content_of files (links_of files placed (bodies_of files) places) end
  pub begin : p.frames ≡ frames
  pub links : p.links ≡ links_of files placed (bodies_of files) places
  pub functions : p.functions ≡ functions_from [] 0 files
  pub main : p.main ≡ main_from files 0 (bodies_of files)

-- in a memory of so many bytes nothing keeps the files from joining, and that is what they join to
pub record Joins (files : List FileParts) (memory : ℕ) (p : ProgramParts) : Type 0 where
  pub fits : cause files memory ≡ None
  pub made : IsMadeOf files (placed_in files) (places_in files) (objects_end files) (frames_begin files (rows_of files)) p

-- memory for joining was wanting, or it is the first cause why the files don't join
abbrev pub IsRefused : List FileParts → (memory : ℕ) → JoinError → Type 0
IsRefused files memory e = (e ≡ Memory) ⊎ (cause files memory ≡ Some e)
