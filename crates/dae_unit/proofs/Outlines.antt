-- The first cause why files don't join is that of their outlines.
use Rattle.std.proofs.Common.{◌≡◌, ℕ, zero, suc, Bool, true, false, List, [], ◌∷◌, ◌++◌, length, map, refl, sym, ap, ◌∙◌, Option, Some, None, if◌then◌else◌}
use Rattle.std.proofs.lemmas.Option.{slice_get-map}
use Rattle.std.specs.Prelude.{find, slice_get, option_map}
use Rattle.dae_types_kinds.specs.declared.tables.Component.{Component}
use Rattle.dae_types_kinds.specs.declared.tables.Entity.{Entity}
use Rattle.dae_types_kinds.specs.declared.tables.Entity.TheVariants as entity
use Rattle.dae_types_kinds.specs.declared.tables.StaticObject.{StaticObject}
use Rattle.dae_types_kinds.specs.declared.tables.Routine.{Routine}
use Rattle.dae_types_kinds.specs.declared.tables.EntityUse.{EntityUse}
use Rattle.dae_types_kinds.specs.declared.types.Layout.{Layout}
use Rattle.dae_types_kinds.specs.declared.types.Shape.{Shape}
use Rattle.dae_types_kinds.specs.declared.types.Shape.TheVariants as shape
use Rattle.dae_types_kinds.specs.declared.types.Structure.{Structure}
use Rattle.dae_types_kinds.specs.Types.{shape_of}
use Rattle.dae_types_typed.specs.declared.files.FileParts.{FileParts}
use Rattle.dae_types_typed.specs.Linkage.{name_in, object_name, routine_name, type_in}
use Rattle.dae_types_typed.specs.Sound.{tables_of, members_of}
use Rattle.dae_unit.specs.Across.{tag_of, same_members, same_structure, shape_across, same_within_files, same_across}
use Rattle.dae_unit.specs.Clashes.{clashes, first_clash, gives, is_library_in, is_missing, first_missing, is_main, same_types}
use Rattle.dae_unit.specs.declared.errors.Clash.{Clash}
use Rattle.dae_unit.specs.declared.errors.Clash.TheVariants.{Definitions, Types}
use Rattle.dae_unit.specs.declared.rows.FileRow.{FileRow}
use Rattle.dae_unit.specs.Linkage.{rows_of_file, rows_from, rows_of, external_name, is_one, entity_of}
use Rattle.dae_unit.specs.Later.{nearest}
use Rattle.dae_unit.specs.Outlines.{outline, OutlinesTellCauses}
use Rattle.dae_unit.proofs.Finding.{found_alike, any_alike}
use Rattle.dae_unit.proofs.Kept.{nearest_is_first}
use Rattle.dae_unit.specs.Placing.{is_same, is_first, placed_rows, layout_in, layout_of_row, object_layouts, literal_layouts, all_literals, rooms_of, end_from, rounded_up, frames_begin, first_place}

-- ---- rows and names

rows_alike : (done : List FileRow) (k : ℕ) (fs : List FileParts) → rows_from done k (map outline fs) ≡ rows_from done k fs
rows_alike done k [] = refl
rows_alike done k (f ∷ fs) = rows_alike (rows_of_file done k f.declarations) (suc k) fs

object_alike : (f : FileParts) (o : Option StaticObject) → object_name (outline f) o ≡ object_name f o
object_alike f None = refl
object_alike f (Some o) = refl

routine_alike : (f : FileParts) (o : Option Routine) → routine_name (outline f) o ≡ routine_name f o
routine_alike f None = refl
routine_alike f (Some o) = refl

name_alike : (f : FileParts) (e : Entity) → name_in (outline f) e ≡ name_in f e
name_alike f (entity.Object n) = object_alike f (slice_get f.objects n)
name_alike f (entity.Function n) = routine_alike f (slice_get f.routines n)
name_alike f e = refl

type_alike : (f : FileParts) (e : Entity) → type_in (outline f) e ≡ type_in f e
type_alike f (entity.Object n) = refl
type_alike f e = refl

-- ---- types across files

tags_alike : (f : FileParts) (s : Option Structure) → tag_of (outline f) s ≡ tag_of f s
tags_alike f None = refl
tags_alike f (Some s) = refl

members_alike : (p q : ℕ → ℕ → Bool) → ((m n : ℕ) → p m n ≡ q m n) → (f g : FileParts) (cs ds : List Component) → same_members p (outline f) (outline g) cs ds ≡ same_members q f g cs ds
members_alike p q h f g [] [] = refl
members_alike p q h f g (c ∷ cs) (d ∷ ds) = rw (h c.type_id d.type_id, members_alike p q h f g cs ds) refl
members_alike p q h f g cs ds = refl

structures_alike : (p q : ℕ → ℕ → Bool) → ((m n : ℕ) → p m n ≡ q m n) → (f g : FileParts) (behind : Bool) (m n : ℕ) → same_structure p (outline f) (outline g) behind m n ≡ same_structure q f g behind m n
structures_alike p q h f g behind m n =
    rw (tags_alike f (slice_get f.structures m), tags_alike g (slice_get g.structures n), members_alike p q h f g (members_of (tables_of f) m) (members_of (tables_of g) n)) refl

shapes_alike : (p q : Bool → ℕ → ℕ → Bool) → ((b : Bool) (m n : ℕ) → p b m n ≡ q b m n) → (f g : FileParts) (behind : Bool) (x y : Shape) → shape_across p (outline f) (outline g) behind x y ≡ shape_across q f g behind x y
shapes_alike p q h f g behind (shape.Pointer m) (shape.Pointer n) = h true m n
shapes_alike p q h f g behind (shape.Array m c) (shape.Array n d) = rw (h behind m n) refl
shapes_alike p q h f g behind (shape.Struct m) (shape.Struct n) = structures_alike (p false) (q false) (h false) f g behind m n
shapes_alike p q h f g behind (shape.Function r ps) (shape.Function t qs) = rw (h behind r t, h behind ps qs) refl
shapes_alike p q h f g behind (shape.Parameter ps m) (shape.Parameter qs n) = rw (h behind ps qs, h behind m n) refl
shapes_alike p q h f g behind x y = refl

within_alike : (k : ℕ) (f g : FileParts) (behind : Bool) (m n : ℕ) → same_within_files k (outline f) (outline g) behind m n ≡ same_within_files k f g behind m n
within_alike zero f g behind m n = refl
within_alike (suc k) f g behind m n = shapes_alike (same_within_files k (outline f) (outline g)) (same_within_files k f g) (within_alike k f g) f g behind (shape_of (tables_of f) m) (shape_of (tables_of g) n)

across_alike : (f g : FileParts) (m n : ℕ) → same_across (outline f) (outline g) m n ≡ same_across f g m n
unfolding same_across
across_alike f g m n = within_alike (length f.shapes) f g false m n

types_alike : (f g : Option FileParts) (x y : Entity) → same_types (option_map outline f) (option_map outline g) x y ≡ same_types f g x y
types_alike (Some f) (Some g) x y = rw (type_alike f x, type_alike g y) (across_alike f g (type_in f x) (type_in g y))
types_alike (Some f) None x y = refl
types_alike None g x y = refl

library_alike : (f : Option FileParts) (e : Entity) → is_library_in (option_map outline f) e ≡ is_library_in f e
library_alike (Some f) (entity.Function n) = refl
library_alike (Some f) e = refl
library_alike None e = refl

room_alike : (f : Option FileParts) (e : Entity) → layout_in (option_map outline f) e ≡ layout_in f e
room_alike None e = refl
room_alike (Some f) e = rw (type_alike f e) refl

-- ---- among several files

abbrev name_or_none : Entity → Option FileParts → Option (List ℕ)
name_or_none e None = None
name_or_none e (Some f) = name_in f e

-- the first of two
abbrev earlier : Option EntityUse → Option EntityUse → Option EntityUse
earlier None v = v
earlier (Some u) v = Some u

first_is : (o v : Option EntityUse) → ◌≡◌ {A = Option EntityUse} (elim o [ None ↦ v | Some u ↦ Some u ]) (earlier o v)
first_is None v = refl
first_is (Some u) v = refl

module _ (files : List FileParts) where
  abbrev outlines : List FileParts
  outlines = map outline files

  external_alike : (k : ℕ) (e : Entity) → external_name outlines k e ≡ external_name files k e
  unfolding external_name
  external_alike k e = ap (name_or_none e) (slice_get-map outline files k) ∙ by (slice_get files k)
    where
      by : (f : Option FileParts) → name_or_none e (option_map outline f) ≡ name_or_none e f
      by None = refl
      by (Some f) = name_alike f e

  one_alike : (j : ℕ) (x : Entity) (k : ℕ) (y : Entity) → is_one outlines j x k y ≡ is_one files j x k y
  unfolding is_one
  one_alike j x k y = rw (external_alike j x, external_alike k y) refl

  clashes_alike : (clash : Clash) (d e : FileRow) → clashes outlines clash d e ≡ clashes files clash d e
  unfolding clashes
  clashes_alike Definitions d e = rw (external_alike d.file (entity_of d), external_alike e.file (entity_of e)) refl
  clashes_alike Types d e =
      rw (external_alike d.file (entity_of d), external_alike e.file (entity_of e), slice_get-map outline files d.file, slice_get-map outline files e.file, types_alike (slice_get files d.file) (slice_get files e.file) (entity_of d) (entity_of e)) refl

  first_alike : (clash : Clash) (ds : List FileRow) → first_clash outlines clash ds ≡ first_clash files clash ds
  first_alike clash [] = refl
  first_alike clash (d ∷ ds) =
      sym (nearest_is_first outlines clash d ds)
      ∙ ap (λ o. nearest d o (first_clash outlines clash ds)) (found_alike (clashes outlines clash d) (clashes files clash d) (clashes_alike clash d) ds)
      ∙ ap (nearest d (find (clashes files clash d) ds)) (first_alike clash ds)
      ∙ nearest_is_first files clash d ds

  gives_alike : (k : ℕ) (e : Entity) (d : FileRow) → gives outlines k e d ≡ gives files k e d
  unfolding gives
  gives_alike k e d = rw (one_alike k e d.file (entity_of d)) refl

  is_missing_alike : (rows : List FileRow) (k : ℕ) (u : EntityUse) → is_missing outlines rows k u ≡ is_missing files rows k u
  unfolding is_missing
  is_missing_alike rows k u =
      rw (slice_get-map outline files k, library_alike (slice_get files k) u.entity, any_alike (gives outlines k u.entity) (gives files k u.entity) (gives_alike k u.entity) rows) refl

  missing_alike : (rows : List FileRow) (k : ℕ) (fs : List FileParts) → first_missing outlines rows k (map outline fs) ≡ first_missing files rows k fs
  missing_alike rows k [] = refl
  missing_alike rows k (f ∷ fs) =
      first_is (find (is_missing outlines rows k) f.uses) (first_missing outlines rows (suc k) (map outline fs))
      ∙ ap (λ o. earlier o (first_missing outlines rows (suc k) (map outline fs))) (found_alike (is_missing outlines rows k) (is_missing files rows k) (is_missing_alike rows k) f.uses)
      ∙ ap (earlier (find (is_missing files rows k) f.uses)) (missing_alike rows (suc k) fs)
      ∙ sym (first_is (find (is_missing files rows k) f.uses) (first_missing files rows (suc k) fs))

  main_alike : (d : FileRow) → is_main outlines d ≡ is_main files d
  unfolding is_main
  main_alike d = rw (external_alike d.file (entity_of d)) refl

  same_alike : (d e : FileRow) → is_same outlines d e ≡ is_same files d e
  same_alike d e = one_alike d.file (entity_of d) e.file (entity_of e)

  is_first_alike : (done : List FileRow) (d : FileRow) → is_first outlines done d ≡ is_first files done d
  unfolding is_first
  is_first_alike done d = rw (any_alike (is_same outlines d) (is_same files d) (same_alike d) done) refl

  placed_alike : (done ds : List FileRow) → placed_rows outlines done ds ≡ placed_rows files done ds
  placed_alike done [] = refl
  placed_alike done (d ∷ ds) = rw (is_first_alike done d) (placed_alike (if is_first files done d then done ++ d ∷ [] else done) ds)

  layout_alike : (d : FileRow) → layout_of_row outlines d ≡ layout_of_row files d
  unfolding layout_of_row
  layout_alike d = rw (slice_get-map outline files d.file) (room_alike (slice_get files d.file) (entity_of d))

  layouts_alike : (done : List Layout) (ds : List FileRow) → object_layouts outlines done ds ≡ object_layouts files done ds
  layouts_alike done [] = refl
  layouts_alike done (d ∷ ds) = rw (layout_alike d) (layouts_alike (done ++ layout_of_row files d ∷ []) ds)

  literals_alike : (done : List Layout) (fs : List FileParts) → all_literals done (map outline fs) ≡ all_literals done fs
  literals_alike done [] = refl
  literals_alike done (f ∷ fs) = literals_alike (literal_layouts done f.literals) fs

  frames_alike : (rows : List FileRow) → frames_begin outlines rows ≡ frames_begin files rows
  frames_alike rows =
      let placed = placed_rows files [] rows in
      let same : rooms_of outlines (placed_rows outlines [] rows) ≡ rooms_of files placed =
      rw (placed_alike [] rows, layouts_alike [] placed) (literals_alike (object_layouts files [] placed) files) in
      ap (λ (rooms : List Layout). rounded_up (end_from first_place rooms) 4) same

pub causes_alike : OutlinesTellCauses
causes_alike files memory =
    rw (rows_alike [] 0 files) (
    let rows = rows_of files in
    rw (first_alike files Definitions rows, first_alike files Types rows, missing_alike files rows 0 files, any_alike (is_main (map outline files)) (is_main files) (main_alike files) rows, frames_alike files rows) refl)
