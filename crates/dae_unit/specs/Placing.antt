-- Where objects and literals stand: objects with static storage from address 16 on, in the order of the first declaration of
-- each that isn't a mere reference, each at a multiple of its alignment; then all string literals, each with its zero byte.
-- Frames begin behind them, at a multiple of 4. Sums stop at 2^64 - 1.
use Rattle.std.specs.Prelude.{ℕ, ◌+◌, ◌-◌, ◌*◌, ◌/◌, ◌^◌, Bool, ◌&&◌, not, List, [], ◌∷◌, ◌++◌, length, Option, Some, None, nat_eq, nat_le, if◌then◌else◌, slice_get, min}
use Rattle.std.specs.List.{list_any}
use Rattle.dae_types_kinds.specs.declared.types.Layout.{Layout}
use Rattle.dae_types_kinds.specs.declared.tables.Entity.{Entity}
use Rattle.dae_types_kinds.specs.Types.{layout, layout_at, greatest_word}
use Rattle.dae_types_typed.specs.declared.files.FileParts.{FileParts}
use Rattle.dae_types_typed.specs.Linkage.{is_object, type_in}
use Rattle.dae_types_typed.specs.Sound.{tables_of}
use Rattle.dae_unit.specs.declared.rows.FileRow.{FileRow}
use Rattle.dae_unit.specs.Linkage.{is_one, entity_of, refers}

-- ---- which declarations give room

abbrev pub is_same : List FileParts → FileRow → FileRow → Bool
is_same files d e = is_one files d.file (entity_of d) e.file (entity_of e)

abbrev pub gives_room : FileRow → Bool
gives_room d = is_object (entity_of d) && not (refers d)

-- whether a declaration is the first that gives an object room, behind those that do so
unfoldable pub is_first : List FileParts → List FileRow → FileRow → Bool
is_first files done d = gives_room d && not (list_any (is_same files d) done)

abbrev pub placed_rows : List FileParts → List FileRow → List FileRow → List FileRow
placed_rows files done [] = done
placed_rows files done (d ∷ ds) = placed_rows files (if is_first files done d then done ++ d ∷ [] else done) ds

-- ---- the room of each

abbrev pub layout_in : Option FileParts → Entity → Layout
layout_in None e = layout 0 1
layout_in (Some f) e = layout_at (tables_of f) (type_in f e)

unfoldable pub layout_of_row : List FileParts → FileRow → Layout
layout_of_row files d = layout_in (slice_get files d.file) (entity_of d)

abbrev pub object_layouts : List FileParts → List Layout → List FileRow → List Layout
object_layouts files done [] = done
object_layouts files done (d ∷ ds) = object_layouts files (done ++ layout_of_row files d ∷ []) ds

abbrev pub literal_layout : List ℕ → Layout
literal_layout bytes = layout (min (length bytes + 1) greatest_word) 1

abbrev pub literal_layouts : List Layout → List (List ℕ) → List Layout
literal_layouts done [] = done
literal_layouts done (l ∷ ls) = literal_layouts (done ++ literal_layout l ∷ []) ls

abbrev pub all_literals : List Layout → List FileParts → List Layout
all_literals done [] = done
all_literals done (f ∷ fs) = all_literals (literal_layouts done f.literals) fs

-- ---- places, one behind the other

abbrev pub last_place : ℕ
last_place = 2 ^ 64 - 1

abbrev pub first_place : ℕ
first_place = 16

-- the least multiple of a number that isn't 0 from n on
abbrev pub rounded_up : ℕ → ℕ → ℕ
rounded_up n to = if nat_eq to 0 then n else (if nat_le (n + (to - 1)) last_place then ((n + (to - 1)) / to) * to else last_place)

abbrev pub place_behind : ℕ → Layout → ℕ
place_behind at l = min (rounded_up at l.align + l.size) last_place

abbrev pub places_from : ℕ → List ℕ → List Layout → List ℕ
places_from at done [] = done
places_from at done (l ∷ ls) = places_from (place_behind at l) (done ++ rounded_up at l.align ∷ []) ls

abbrev pub end_from : ℕ → List Layout → ℕ
end_from at [] = at
end_from at (l ∷ ls) = end_from (place_behind at l) ls

-- the room of all objects and literals
abbrev pub rooms_of : List FileParts → List FileRow → List Layout
rooms_of files placed = all_literals (object_layouts files [] placed) files

-- where the data end
abbrev pub data_end : List FileParts → List FileRow → ℕ
data_end files rows = end_from first_place (rooms_of files (placed_rows files [] rows))

-- where frames begin
abbrev pub frames_begin : List FileParts → List FileRow → ℕ
frames_begin files rows = rounded_up (data_end files rows) 4
