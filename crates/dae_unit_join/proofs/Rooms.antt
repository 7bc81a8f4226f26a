-- The room of all objects and literals: what stands at each number, and where the literals end.
use Rattle.std.proofs.Common.{◌≡◌, ℕ, zero, suc, ◌+◌, ◌-◌, ◌*◌, ◌/◌, ◌^◌, ◌<◌, ◌≤◌, Bool, true, false, List, [], ◌∷◌, ◌++◌, length, Some, refl, sym, ap, subst, ◌∙◌, arith}
use Rattle.std.proofs.lemmas.List.{append_assoc, append-nil, length-append}
use Rattle.std.specs.Prelude.{slice_get, min, nat_le, if◌then◌else◌}
use Rattle.std.specs.List.{AllByRecursion}
use Rattle.dae_types_kinds.specs.declared.types.Layout.{Layout}
use Rattle.dae_types_kinds.specs.Types.{greatest_word}
use Rattle.dae_types_typed.specs.declared.files.FileParts.{FileParts}
use Rattle.dae_types_typed.specs.Linkage.{type_in}
use Rattle.dae_types_typed.specs.Sound.{tables_of}
use Rattle.dae_unit.specs.declared.rows.FileRow.{FileRow}
use Rattle.dae_unit.specs.Linkage.{entity_of}
use Rattle.dae_unit.specs.Placing.{layout_in, layout_of_row, object_layouts, literal_layout, literal_layouts, all_literals, rooms_of, rounded_up, place_behind, end_from, last_place}
use Rattle.dae_unit_join.proofs.Among.{all_among}
use Rattle.dae_unit_join.proofs.Layouts.{align_at}
use Rattle.dae_unit_join.proofs.Links.{count_literals}
use Rattle.dae_unit_join.proofs.Places.{Aligns, end_behind}
use Rattle.dae_unit_join.proofs.Placed.{GivesRoom}
use Rattle.dae_unit_join.proofs.Rows.{IsRow}

-- ---- lists without what was there so far

abbrev pub objects_rooms : List FileParts → List FileRow → List Layout
objects_rooms files [] = []
objects_rooms files (d ∷ ds) = layout_of_row files d ∷ objects_rooms files ds

pub objects_apart : (files : List FileParts) (done : List Layout) (ds : List FileRow) → object_layouts files done ds ≡ done ++ objects_rooms files ds
objects_apart files done [] = sym (append-nil done)
objects_apart files done (d ∷ ds) = objects_apart files (done ++ layout_of_row files d ∷ []) ds ∙ append_assoc done (layout_of_row files d ∷ []) (objects_rooms files ds)

abbrev literals_rooms : List (List ℕ) → List Layout
literals_rooms [] = []
literals_rooms (l ∷ ls) = literal_layout l ∷ literals_rooms ls

literals_apart : (done : List Layout) (ls : List (List ℕ)) → literal_layouts done ls ≡ done ++ literals_rooms ls
literals_apart done [] = sym (append-nil done)
literals_apart done (l ∷ ls) = literals_apart (done ++ literal_layout l ∷ []) ls ∙ append_assoc done (literal_layout l ∷ []) (literals_rooms ls)

abbrev pub files_rooms : List FileParts → List Layout
files_rooms [] = []
files_rooms (f ∷ fs) = literals_rooms f.literals ++ files_rooms fs

files_apart : (done : List Layout) (fs : List FileParts) → all_literals done fs ≡ done ++ files_rooms fs
files_apart done [] = sym (append-nil done)
files_apart done (f ∷ fs) = files_apart (literal_layouts done f.literals) fs ∙ ap (λ ls. ls ++ files_rooms fs) (literals_apart done f.literals) ∙ append_assoc done (literals_rooms f.literals) (files_rooms fs)

-- objects first, and then the literals
pub rooms_apart : (files : List FileParts) (placed : List FileRow) → rooms_of files placed ≡ objects_rooms files placed ++ files_rooms files
rooms_apart files placed = files_apart (object_layouts files [] placed) files ∙ ap (λ ls. ls ++ files_rooms files) (objects_apart files [] placed)

-- ---- how many

length-objects : (files : List FileParts) (ds : List FileRow) → length (objects_rooms files ds) ≡ length ds
length-objects files [] = refl
length-objects files (d ∷ ds) = ap suc (length-objects files ds)

length-literals : (ls : List (List ℕ)) → length (literals_rooms ls) ≡ length ls
length-literals [] = refl
length-literals (l ∷ ls) = ap suc (length-literals ls)

length-files : (fs : List FileParts) → length (files_rooms fs) ≡ count_literals fs
length-files [] = refl
length-files (f ∷ fs) =
    let all = length-append (literals_rooms f.literals) (files_rooms fs) in
    let here = length-literals f.literals in
    let later = length-files fs in
    omega arith

pub length-rooms : (files : List FileParts) (placed : List FileRow) → length (rooms_of files placed) ≡ length placed + count_literals files
length-rooms files placed =
    let whole = ap length (rooms_apart files placed) in
    let all = length-append (objects_rooms files placed) (files_rooms files) in
    let here = length-objects files placed in
    let later = length-files files in
    omega arith

-- ---- what stands at a number

object_room : (files : List FileParts) (ds : List FileRow) (rest : List Layout) (i : ℕ) (d : FileRow) → slice_get ds i ≡ Some d → slice_get (objects_rooms files ds ++ rest) i ≡ Some (layout_of_row files d)
object_room files [] rest i d h = absurd cc
object_room files (e ∷ es) rest zero d h = let q : e ≡ d = cc in ap (λ z. Some (layout_of_row files z)) q
object_room files (e ∷ es) rest (suc i) d h = object_room files es rest i d h

pub room_at : (files : List FileParts) (placed : List FileRow) (i : ℕ) (d : FileRow) → slice_get placed i ≡ Some d → slice_get (rooms_of files placed) i ≡ Some (layout_of_row files d)
room_at files placed i d h = ap (λ ls. slice_get ls i) (rooms_apart files placed) ∙ object_room files placed (files_rooms files) i d h

-- ---- alignment

pub layout_is_in : (files : List FileParts) (d : FileRow) (f : FileParts) → slice_get files d.file ≡ Some f → layout_of_row files d ≡ layout_in (Some f) (entity_of d)
unfolding layout_of_row
layout_is_in files d f h = ap (λ o. layout_in o (entity_of d)) h

row_aligns : (files : List FileParts) (d : FileRow) → IsRow files d → Aligns (layout_of_row files d)
row_aligns files d r = subst Aligns (sym (layout_is_in files d r.parts r.file)) (align_at (tables_of r.parts) r.sound.layouts (type_in r.parts (entity_of d)))

pub objects_align : (files : List FileParts) (rows ds : List FileRow) → AllByRecursion (IsRow files) rows → AllByRecursion (GivesRoom rows) ds → AllByRecursion Aligns (objects_rooms files ds)
objects_align files rows [] sound all = tt
objects_align files rows (d ∷ ds) sound all = (row_aligns files d (all_among (IsRow files) d rows sound all.0.among), objects_align files rows ds sound all.1)

literals_align : (ls : List (List ℕ)) → AllByRecursion Aligns (literals_rooms ls)
literals_align [] = tt
literals_align (l ∷ ls) = (omega arith, literals_align ls)

both_align : (xs ys : List Layout) → AllByRecursion Aligns xs → AllByRecursion Aligns ys → AllByRecursion Aligns (xs ++ ys)
both_align [] ys a b = b
both_align (x ∷ xs) ys a b = (a.0, both_align xs ys a.1 b)

files_align : (fs : List FileParts) → AllByRecursion Aligns (files_rooms fs)
files_align [] = tt
files_align (f ∷ fs) = both_align (literals_rooms f.literals) (files_rooms fs) (literals_align f.literals) (files_align fs)

pub rooms_align : (files : List FileParts) (rows placed : List FileRow) → AllByRecursion (IsRow files) rows → AllByRecursion (GivesRoom rows) placed → AllByRecursion Aligns (rooms_of files placed)
rooms_align files rows placed sound all = subst (AllByRecursion Aligns) (sym (rooms_apart files placed)) (both_align (objects_rooms files placed) (files_rooms files) (objects_align files rows placed sound all) (files_align files))

-- ---- where the literals end

pub end_append : (at : ℕ) (xs ys : List Layout) → end_from at (xs ++ ys) ≡ end_from (end_from at xs) ys
end_append at [] ys = refl
end_append at (x ∷ xs) ys = end_append (place_behind at x) xs ys

abbrev pub literals_bytes : List (List ℕ) → ℕ
literals_bytes [] = 0
literals_bytes (l ∷ ls) = (length l + 1) + literals_bytes ls

abbrev pub files_bytes : List FileParts → ℕ
files_bytes [] = 0
files_bytes (f ∷ fs) = literals_bytes f.literals + files_bytes fs

rounded_by_one : (n : ℕ) → rounded_up n 1 < last_place → rounded_up n 1 ≡ n
rounded_by_one n small = by (nat_le (n + (1 - 1)) last_place) small
  where
    by : (c : Bool) → (if c then ((n + (1 - 1)) / 1) * 1 else last_place) < last_place → (if c then ((n + (1 - 1)) / 1) * 1 else last_place) ≡ n
    by true s = omega arith
    by false s = absurd (omega arith)

sum_small : (r n : ℕ) → min (r + min (n + 1) greatest_word) last_place ≤ 2 ^ 26 → (r < last_place) × (min (r + min (n + 1) greatest_word) last_place ≡ r + (n + 1))
sum_small r n h = (omega arith, omega arith)

literal_behind : (at : ℕ) (l : List ℕ) → place_behind at (literal_layout l) ≤ 2 ^ 26 → place_behind at (literal_layout l) ≡ at + (length l + 1)
literal_behind at l small = let sum = sum_small (rounded_up at 1) (length l) small in sum.1 ∙ ap (λ r. r + (length l + 1)) (rounded_by_one at sum.0)

literals_end : (at : ℕ) (ls : List (List ℕ)) → end_from at (literals_rooms ls) ≤ 2 ^ 26 → end_from at (literals_rooms ls) ≡ at + literals_bytes ls
literals_end at [] small = omega arith
literals_end at (l ∷ ls) small =
    let later = literals_end (place_behind at (literal_layout l)) ls small in
    let low = end_behind (place_behind at (literal_layout l)) (literals_rooms ls) (literals_align ls) (omega arith) in
    let here = literal_behind at l (omega arith) in
    omega arith

pub files_end : (at : ℕ) (fs : List FileParts) → end_from at (files_rooms fs) ≤ 2 ^ 26 → end_from at (files_rooms fs) ≡ at + files_bytes fs
files_end at [] small = omega arith
files_end at (f ∷ fs) small =
    let cut = end_append at (literals_rooms f.literals) (files_rooms fs) in
    let later = files_end (end_from at (literals_rooms f.literals)) fs (omega arith) in
    let low = end_behind (end_from at (literals_rooms f.literals)) (files_rooms fs) (files_align fs) (omega arith) in
    let here = literals_end at f.literals (omega arith) in
    omega arith
