-- Each object that a file uses has room in memory.
use Rattle.std.proofs.Common.{◌≡◌, ℕ, ◌+◌, ◌%◌, ◌^◌, ◌<◌, ◌≤◌, Bool, true, false, inl, inr, List, [], length, Some, refl, sym, ap, subst, ◌∙◌, arith}
use Rattle.std.proofs.lemmas.Bool.{cases_Bool, ltb-true}
use Rattle.std.proofs.lemmas.Bool.Decides.{nat_tests}
use Rattle.std.specs.Prelude.{slice_get, slice_index, nat_lt, if◌then◌else◌}
use Rattle.std.specs.List.{list_any, AllByRecursion}
use Rattle.dae_types_kinds.specs.declared.types.Layout.{Layout}
use Rattle.dae_types_kinds.specs.declared.tables.Entity.{Entity}
use Rattle.dae_types_kinds.specs.declared.tables.Entity.TheVariants as entity
use Rattle.dae_types_kinds.specs.Types as types
use Rattle.dae_types_kinds.specs.Types.{shape_of, layout_at, is_complete}
use Rattle.dae_types_kinds.specs.Values.{object_type}
use Rattle.dae_program.specs.Resolved.{address_in}
use Rattle.dae_types_typed.specs.declared.files.FileParts.{FileParts}
use Rattle.dae_types_typed.specs.Linkage.{is_function, type_in}
use Rattle.dae_types_typed.specs.Sound.{tables_of, is_used, is_there, IsSound, IsSoundDeclaration, HasRoom, HaveRoom}
use Rattle.dae_unit.specs.declared.rows.FileRow.{FileRow}
use Rattle.dae_unit.specs.Across.{same_across}
use Rattle.dae_unit.specs.Linkage.{entity_of, is_one, rows_of}
use Rattle.dae_unit.specs.Placing.{is_same, layout_of_row, rooms_of, end_from, data_end, frames_begin}
use Rattle.dae_unit.specs.Meanings.{number_from, object_place, bodies_of, links_in, links_of}
use Rattle.dae_unit_join.specs.Joined.{placed_in, places_in}
use Rattle.dae_unit_join.proofs.Among.{any_among, among_any, all_among, among_get}
use Rattle.dae_unit_join.proofs.Causes.{HasNoCause}
use Rattle.dae_unit_join.proofs.Layouts.{AreAlike, alike, types_alike, incomplete_empty}
use Rattle.dae_unit_join.proofs.Links.{HasLinks, link_at, address_at}
use Rattle.dae_unit_join.proofs.Numbers.{found_first, number_first}
use Rattle.dae_unit_join.proofs.Ones.{AreRelated, object_if, one_transitive}
use Rattle.dae_unit_join.proofs.Placed.{GivesRoom, placed_give_room, has_placed}
use Rattle.dae_unit_join.proofs.Places.{HasPlace, places_behind, places_apart, length-places, placed_at, rounded_at}
use Rattle.dae_unit_join.proofs.Rooms.{rooms_align, room_at, length-rooms, layout_is_in}
use Rattle.dae_unit_join.proofs.Rows.{IsRow, rows_sound, file_sound}
use Rattle.dae_unit_join.proofs.Uses.{declared, given, one_of}

-- ---- layouts of one object in two files

related_alike : (f g : FileParts) (x y : Entity) → IsSound f → IsSound g → AreRelated f g x y → AreAlike (layout_at (tables_of f) (type_in f x)) (layout_at (tables_of g) (type_in g y)) (is_complete (tables_of f) (type_in f x)) (is_complete (tables_of g) (type_in g y))
unfolding same_across
related_alike f g x y sf sg (inl e) =
    subst (λ z. AreAlike (layout_at (tables_of f) (type_in f x)) (layout_at (tables_of z) (type_in z y)) (is_complete (tables_of f) (type_in f x)) (is_complete (tables_of z) (type_in z y))) e.0
    (subst (λ z. AreAlike (layout_at (tables_of f) (type_in f x)) (layout_at (tables_of f) (type_in f z)) (is_complete (tables_of f) (type_in f x)) (is_complete (tables_of f) (type_in f z))) e.1
    (alike (layout_at (tables_of f) (type_in f x)) (is_complete (tables_of f) (type_in f x)) (is_complete (tables_of f) (type_in f x))))
related_alike f g x y sf sg (inr (inl h)) = types_alike f g sf sg (length f.shapes) (type_in f x) (type_in g y) h
related_alike f g x y sf sg (inr (inr h)) =
    let one = types_alike g f sg sf (length g.shapes) (type_in g y) (type_in f x) h in
    record { align = sym one.align; same = λ a b. sym (one.same b a) }

-- a place that suits the declaration that gives room suits each use
suits : (memory at end : ℕ) (l m : Layout) (c d : Bool) → end ≤ memory → HasPlace 16 at end m → AreAlike l m c d → d ≡ true → (c ≡ false → l.size ≡ 0) → HasRoom memory at l
suits memory at end l m c d small place alike' complete empty =
    let fits = place.fits in
    let room : at + l.size ≤ memory = elim (cases_Bool c) [
      | inl e ↦ (let same : l.size ≡ m.size = ap (λ (z : Layout). z.size) (alike'.same e complete) in omega arith)
      | inr e ↦ (let none = empty e in omega arith)
    ] in
    record { aligned = subst (λ n. at % n ≡ 0) (sym alike'.align) place.aligned; low = place.low; fits = room }

-- ---- where objects stand

place_is : (files : List FileParts) (placed : List FileRow) (places : List ℕ) (k : ℕ) (e : Entity) (i : ℕ) → number_from files 0 k e placed ≡ i → i < length placed → object_place files placed places k e ≡ slice_index places i
place_is files placed places k e i same small = by (number_from files 0 k e placed) same
  where
    by : (n : ℕ) → n ≡ i → (if nat_lt n (length placed) then slice_index places n else 0) ≡ slice_index places i
    by n q = let yes : nat_lt n (length placed) ≡ true = grind (arith, nat_tests) in rw (yes, q) refl

module _ (files : List FileParts) (memory : ℕ) (sounds : AllByRecursion IsSound files) (no : HasNoCause files memory) (small : memory ≤ 2 ^ 26) where
  abbrev pub placed : List FileRow
  placed = placed_in files

  -- the data end before the frames begin
  pub ends : (data_end files (rows_of files) ≤ memory) × (data_end files (rows_of files) ≤ frames_begin files (rows_of files)) × (frames_begin files (rows_of files) % 4 ≡ 0)
  ends =
      let fits = no.fits in
      let r = rounded_at (data_end files (rows_of files)) 4 (omega arith) (omega arith) in
      let from' = r.from in
      (omega arith, from', r.multiple)

  rows_are : AllByRecursion (IsRow files) (rows_of files)
  rows_are = rows_sound files sounds

  placed_are : AllByRecursion (GivesRoom (rows_of files)) placed
  placed_are = placed_give_room files (rows_of files)

  -- a row that gives room to what a file uses
  has_room_row : (k : ℕ) (f : FileParts) (n : ℕ) → slice_get files k ≡ Some f → is_used f.uses (entity.Object n) ≡ true → list_any (λ (d : FileRow). is_one files k (entity.Object n) d.file (entity_of d)) placed ≡ true
  has_room_row k f n h used =
      let sf = file_sound files k f sounds h in
      let d = declared f (entity.Object n) (sf.uses (entity.Object n) used) in
      let g = given files k f (entity.Object n) no.uses h used refl in
      let r = all_among (IsRow files) g.giver (rows_of files) rows_are g.among in
      let one = one_of files no.types k f (entity.Object n) h sf d g.giver r g.among g.one in
      let sd = all_among (IsSoundDeclaration r.parts) (let y = g.giver in y.declaration) (let p = r.parts in p.declarations) r.sound.declarations r.among in
      let object = object_if r.parts (entity_of g.giver) sd.there (sym one.kind) in
      let there = any_among (is_same files g.giver) placed (has_placed files [] (rows_of files) g.giver object g.room g.among) in
      among_any (λ (d : FileRow). is_one files k (entity.Object n) d.file (entity_of d)) there.0 placed there.1
      (one_transitive files k (entity.Object n) (let y = g.giver in y.file) (entity_of g.giver) (let w = there.0 in w.file) (entity_of there.0) g.one there.2)

  pub has_room : (k : ℕ) (f : FileParts) (n : ℕ) → slice_get files k ≡ Some f → is_used f.uses (entity.Object n) ≡ true → HasRoom memory (object_place files placed (places_in files) k (entity.Object n)) (layout_at (tables_of f) (object_type (slice_get f.objects n)))
  has_room k f n h used =
      let sf = file_sound files k f sounds h in
      let d = declared f (entity.Object n) (sf.uses (entity.Object n) used) in
      let found = found_first (λ (d : FileRow). is_one files k (entity.Object n) d.file (entity_of d)) 0 placed (has_room_row k f n h used) in
      let w = found.row in
      let room = all_among (GivesRoom (rows_of files)) w placed placed_are (among_get placed found.index w found.there) in
      let r = all_among (IsRow files) w (rows_of files) rows_are room.among in
      let one = one_of files no.types k f (entity.Object n) h sf d w r room.among found.passes in
      let sw = all_among (IsSoundDeclaration r.parts) w.declaration (let p = r.parts in p.declarations) r.sound.declarations r.among in
      let sd = all_among (IsSoundDeclaration f) d.declaration f.declarations sf.declarations d.among in
      let kind : types.is_function (shape_of (tables_of f) (type_in f (entity.Object n))) ≡ false = subst (λ z. types.is_function (shape_of (tables_of f) (type_in f z)) ≡ is_function z) d.entity sd.kind in
      let end = ends in
      let last = end.0 in
      let place = placed_at 16 (rooms_of files placed) found.index (layout_of_row files w) (rooms_align files (rows_of files) placed rows_are placed_are) (omega arith) (room_at files placed found.index w found.there) in
      let at = found.at in
      let number : number_from files 0 k (entity.Object n) placed ≡ found.index = number_first files 0 k (entity.Object n) placed ∙ (let z : 0 + found.index ≡ found.index = omega arith in at ∙ z) in
      let is_at = place_is files placed (places_in files) k (entity.Object n) found.index number found.within ∙ ap (λ ns. slice_index ns found.index) (places_apart 16 [] (rooms_of files placed)) in
      let here = suits memory (slice_index (places_behind 16 (rooms_of files placed)) found.index) (end_from 16 (rooms_of files placed)) (layout_at (tables_of f) (type_in f (entity.Object n))) (layout_at (tables_of r.parts) (type_in r.parts (entity_of w))) (is_complete (tables_of f) (type_in f (entity.Object n))) (is_complete (tables_of r.parts) (type_in r.parts (entity_of w)))
      last
      (subst (HasPlace 16 (slice_index (places_behind 16 (rooms_of files placed)) found.index) (end_from 16 (rooms_of files placed))) (layout_is_in files w r.parts r.file) place)
      (related_alike f r.parts (entity.Object n) (entity_of w) sf r.sound one.relation)
      (sw.complete room.object room.room)
      (λ e. incomplete_empty (tables_of f) sf.elements (type_in f (entity.Object n)) e kind) in
      subst (λ a. HasRoom memory a (layout_at (tables_of f) (object_type (slice_get f.objects n)))) (sym is_at) here

  pub linked : (k : ℕ) (f : FileParts) → slice_get files k ≡ Some f → HasLinks files placed (bodies_of files) (places_in files) (links_of files placed (bodies_of files) (places_in files)) k k f
  linked k f h =
      let many = length-rooms files placed in
      let as_many = ap length (places_apart 16 [] (rooms_of files placed)) ∙ length-places 16 (rooms_of files placed) in
      link_at files placed (bodies_of files) (places_in files) k f (omega arith) h

  -- each object that a file uses, by the file's links
  pub have_room : (k : ℕ) (f : FileParts) → slice_get files k ≡ Some f → HaveRoom f memory (address_in (slice_get (links_of files placed (bodies_of files) (places_in files)) k))
  have_room k f h n used =
      let sf = file_sound files k f sounds h in
      let d = declared f (entity.Object n) (sf.uses (entity.Object n) used) in
      let sd = all_among (IsSoundDeclaration f) d.declaration f.declarations sf.declarations d.among in
      let there : is_there f (entity.Object n) ≡ true = subst (λ z. is_there f z ≡ true) d.entity sd.there in
      let link = linked k f h in
      let is_at : address_in (slice_get (links_of files placed (bodies_of files) (places_in files)) k) (length f.literals + n) ≡ object_place files placed (places_in files) k (entity.Object n) =
      ap (λ o. address_in o (length f.literals + n)) link.there
      ∙ ap (λ m. address_in (Some (links_in files placed (bodies_of files) (places_in files) link.literals k f)) (m + n)) (sym link.many)
      ∙ address_at files placed (places_in files) k link.literals f.objects n (ltb-true n (length f.objects) there) in
      subst (λ a. HasRoom memory a (layout_at (tables_of f) (object_type (slice_get f.objects n)))) (sym is_at) (has_room k f n h used)
