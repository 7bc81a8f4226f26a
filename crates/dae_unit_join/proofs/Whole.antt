-- What typed files join to is lawful.
use Rattle.std.proofs.Common.{◌≡◌, ℕ, ◌+◌, ◌-◌, ◌%◌, ◌^◌, ◌≤◌, Bool, true, false, ◌&&◌, ◌||◌, List, [], ◌∷◌, length, Some, refl, sym, ap, subst, ◌∙◌, arith}
use Rattle.std.proofs.lemmas.Bool.{false≢true, and_parts, and_from}
use Rattle.std.proofs.lemmas.Bool.Decides.{nat_tests}
use Rattle.std.specs.Prelude.{slice_get, nat_eq, nat_le, not, codes}
use Rattle.std.specs.List.{list_any, list_all, AllByRecursion}
use Rattle.dae_types_kinds.specs.declared.tables.Entity.TheVariants as entity
use Rattle.dae_types_plans.specs.Steps.{parameter_types}
use Rattle.dae_types_file_plans.specs.declared.declarations.Role.{Role}
use Rattle.dae_types_file_plans.specs.declared.declarations.Role.TheVariants.{Reference, Tentative, Definition}
use Rattle.dae_program.specs.declared.program.Function.{Function}
use Rattle.dae_program.specs.declared.program.Links.{Links}
use Rattle.dae_program.specs.Lawful as lawful
use Rattle.dae_program.specs.Lawful.{is_lawful, is_lawful_body, is_lawful_in, is_lawful_memory, is_ready, is_well_placed, spares}
use Rattle.dae_program.specs.Resolved.{address_in}
use Rattle.dae_types_typed.specs.declared.files.FileParts.{FileParts}
use Rattle.dae_types_typed.specs.declared.files.TypedFunction.{TypedFunction}
use Rattle.dae_types_typed.specs.Linkage.{is_reference, same_name}
use Rattle.dae_types_typed.specs.Sound.{tables_of, is_called_main, is_sound_function, is_ready_function, function_at, IsSound}
use Rattle.dae_unit_join.specs.declared.parts.ProgramParts.{ProgramParts}
use Rattle.dae_unit.specs.declared.rows.FileRow.{FileRow}
use Rattle.dae_unit.specs.Linkage.{entity_of, is_definition, external_name, rows_of}
use Rattle.dae_unit.specs.Clashes.{is_main}
use Rattle.dae_unit_join.specs.Contents.{content_of}
use Rattle.dae_unit.specs.Meanings.{body_row, bodies_of, function_of, functions_from, main_from, links_of}
use Rattle.dae_unit.specs.Placing.{rooms_of, end_from, frames_begin}
use Rattle.dae_unit_join.specs.Joined.{placed_in, places_in, objects_end, Joins}
use Rattle.dae_unit_join.specs.Promise.{IsLawful}
use Rattle.dae_unit_join.proofs.Among.{Among, any_among, among_any, all_among, passes_among}
use Rattle.dae_unit_join.proofs.Bodies.{IsBody, ArePaired, paired, paired_at, has_body}
use Rattle.dae_unit_join.proofs.Calls.{links, functions, parameters_by, row_body, callable, known_as_main}
use Rattle.dae_unit_join.proofs.Causes.{HasNoCause, no_cause}
use Rattle.dae_unit_join.proofs.Content.{length-content}
use Rattle.dae_unit_join.proofs.Links.{links_spare}
use Rattle.dae_unit_join.proofs.Numbers.{found_first, main_first, main_parts, number_spares}
use Rattle.dae_unit_join.proofs.Ones.{name_at}
use Rattle.dae_unit_join.proofs.Placed.{placed_give_room}
use Rattle.dae_unit_join.proofs.Places.{end_behind}
use Rattle.dae_unit_join.proofs.Room.{ends, have_room}
use Rattle.dae_unit_join.proofs.Rooms.{objects_rooms, objects_apart, objects_align, rooms_apart, files_rooms, files_bytes, end_append, files_end}
use Rattle.dae_unit_join.proofs.Rows.{IsRow, rows_sound, file_sound}

defined_room : (r : Role) → is_definition r ≡ true → is_reference r ≡ false
defined_room Reference h = absurd (false≢true h)
defined_room Tentative h = refl
defined_room Definition h = refl

is_main_by : (files : List FileParts) (k : ℕ) (t : TypedFunction) → same_name (external_name files k (entity.Function t.routine)) (Some (codes "main")) ≡ true → is_main files (body_row k t) ≡ true
unfolding is_main
is_main_by files k t h = h

other_part : (b c : Bool) → b ≡ true → (not b || c) ≡ true → c ≡ true
other_part true c e h = h
other_part false c e h = absurd (false≢true e)

memory_by : (memory frames bytes : ℕ) → frames % 4 ≡ 0 → 16 + bytes ≤ frames → frames ≤ memory → memory ≤ 2 ^ 26 → is_lawful_memory memory frames bytes ≡ true
memory_by memory frames bytes four data' fits small =
    let a : nat_eq (frames % 4) 0 ≡ true = grind (arith, nat_tests) in
    let b : nat_le (16 + bytes) frames ≡ true = grind (arith, nat_tests) in
    let c : nat_le frames memory ≡ true = grind (arith, nat_tests) in
    let d : nat_le memory (2 ^ 26) ≡ true = grind (arith, nat_tests) in
    and_from (nat_eq (frames % 4) 0 && nat_le (16 + bytes) frames) (nat_le frames memory && nat_le memory (2 ^ 26)) (and_from (nat_eq (frames % 4) 0) (nat_le (16 + bytes) frames) a b) (and_from (nat_le frames memory) (nat_le memory (2 ^ 26)) c d)

module _ (files : List FileParts) (memory : ℕ) (sounds : AllByRecursion IsSound files) (no : HasNoCause files memory) (small : memory ≤ 2 ^ 26) where
  abbrev its_links : List Links
  its_links = links files memory sounds no small

  abbrev its_functions : List Function
  its_functions = functions files memory sounds no small

  sound_at : (j : ℕ) (g : FileParts) (t : TypedFunction) → slice_get files j ≡ Some g → Among t g.functions → is_sound_function g memory (address_in (slice_get its_links j)) (parameters_by files memory sounds no small j) t ≡ true
  sound_at j g t h m =
      let sg = file_sound files j g sounds h in
      passes_among (is_sound_function g memory (address_in (slice_get its_links j)) (parameters_by files memory sounds no small j)) t g.functions
      (sg.bodies memory (address_in (slice_get its_links j)) (parameters_by files memory sounds no small j) small (have_room files memory sounds no small j g h) (callable files memory sounds no small j g h)) m

  function_passes : (b : FileRow) (f : Function) → IsBody files b f → is_lawful_in memory its_links its_functions true f ≡ true
  function_passes b f body =
      let j = body.file in
      let g = body.parts in
      let t = body.typed in
      let address = address_in (slice_get its_links j) in
      let counts = parameters_by files memory sounds no small j in
      let one = sound_at j g t body.there body.among in
      let parts = and_parts (nat_eq (length t.parameters) (length (parameter_types (tables_of g) t.routine)) && is_lawful_body memory t.variables counts true (function_at address t)) (not (is_called_main g t.routine) || (nat_eq (length t.parameters) 0 && is_lawful_body memory t.variables counts false (function_at address t))) one in
      let passes = (and_parts (nat_eq (length t.parameters) (length (parameter_types (tables_of g) t.routine))) (is_lawful_body memory t.variables counts true (function_at address t)) parts.0).1 in
      subst (λ z. is_lawful_in memory its_links its_functions true z ≡ true) (sym body.function) passes

  functions_pass : (bs : List FileRow) (fs : List Function) → ArePaired files bs fs → list_all (is_lawful_in memory its_links its_functions true) fs ≡ true
  functions_pass [] [] p = refl
  functions_pass [] (f ∷ fs) p = absurd p
  functions_pass (b ∷ bs) [] p = absurd p
  functions_pass (b ∷ bs) (f ∷ fs) p = and_from (is_lawful_in memory its_links its_functions true f) (list_all (is_lawful_in memory its_links its_functions true) fs) (function_passes b f p.0) (functions_pass bs fs p.1)

  -- ---- each variable is set before it is read

  function_ready : (b : FileRow) (f : Function) → IsBody files b f → is_ready its_links its_functions f ≡ true
  function_ready b f body =
      let sg = file_sound files body.file body.parts sounds body.there in
      let one : is_ready_function body.typed ≡ true = passes_among is_ready_function body.typed (let g = body.parts in g.functions) sg.ready body.among in
      subst (λ z. is_ready its_links its_functions z ≡ true) (sym body.function) one

  functions_ready : (bs : List FileRow) (fs : List Function) → ArePaired files bs fs → list_all (is_ready its_links its_functions) fs ≡ true
  functions_ready [] [] p = refl
  functions_ready [] (f ∷ fs) p = absurd p
  functions_ready (b ∷ bs) [] p = absurd p
  functions_ready (b ∷ bs) (f ∷ fs) p = and_from (is_ready its_links its_functions f) (list_all (is_ready its_links its_functions) fs) (function_ready b f p.0) (functions_ready bs fs p.1)

  -- ---- main

  has_main : list_any (is_main files) (bodies_of files) ≡ true
  has_main =
      let found = any_among (is_main files) (rows_of files) no.main in
      let y = found.0 in
      let r = all_among (IsRow files) y (rows_of files) (rows_sound files sounds) found.1 in
      let parts = main_parts files y found.2 in
      let body = row_body files memory sounds no small y r (defined_room (let d = y.declaration in d.role) parts.0) parts.1 in
      let name : same_name (external_name files y.file (entity_of y)) (Some (codes "main")) ≡ true = parts.2 in
      among_any (is_main files) (body_row y.file body.typed) (bodies_of files) (has_body files y.file r.parts body.typed r.file body.among)
      (is_main_by files y.file body.typed (subst (λ z. same_name (external_name files y.file z) (Some (codes "main")) ≡ true) body.named name))

  main_passes : lawful.is_main memory its_links its_functions (slice_get its_functions (main_from files 0 (bodies_of files))) ≡ true
  main_passes =
      let found = found_first (is_main files) 0 (bodies_of files) has_main in
      let fn = paired_at files (bodies_of files) its_functions found.index found.row (paired files) found.there in
      let body = fn.body in
      let j = body.file in
      let g = body.parts in
      let t = body.typed in
      let address = address_in (slice_get its_links j) in
      let counts = parameters_by files memory sounds no small j in
      let name : same_name (external_name files j (entity.Function t.routine)) (Some (codes "main")) ≡ true = (main_parts files (body_row j t) (subst (λ z. is_main files z ≡ true) body.row found.passes)).2 in
      let called = known_as_main g t.routine (subst (λ z. same_name z (Some (codes "main")) ≡ true) (name_at files j g (entity.Function t.routine) body.there) name) in
      let one = sound_at j g t body.there body.among in
      let parts = and_parts (nat_eq (length t.parameters) (length (parameter_types (tables_of g) t.routine)) && is_lawful_body memory t.variables counts true (function_at address t)) (not (is_called_main g t.routine) || (nat_eq (length t.parameters) 0 && is_lawful_body memory t.variables counts false (function_at address t))) one in
      let passes = other_part (is_called_main g t.routine) (nat_eq (length t.parameters) 0 && is_lawful_body memory t.variables counts false (function_at address t)) called parts.1 in
      let number : main_from files 0 (bodies_of files) ≡ found.index = main_first files 0 (bodies_of files) ∙ (let at = found.at in let z : 0 + found.index ≡ found.index = omega arith in at ∙ z) in
      let is_there : slice_get its_functions (main_from files 0 (bodies_of files)) ≡ Some (function_of j t) = ap (slice_get its_functions) number ∙ (fn.there ∙ ap Some body.function) in
      subst (λ o. lawful.is_main memory its_links its_functions o ≡ true) (sym is_there) passes

  -- ---- memory

  memory_passes : is_lawful_memory memory (frames_begin files (rows_of files)) (length (content_of files its_links (objects_end files))) ≡ true
  memory_passes =
      let end = ends files memory sounds no small in
      let last : end_from 16 (rooms_of files (placed_in files)) ≤ memory = end.0 in
      let behind : end_from 16 (rooms_of files (placed_in files)) ≤ frames_begin files (rows_of files) = end.1 in
      let all : length (content_of files its_links (objects_end files)) ≡ (objects_end files - 16) + files_bytes files = length-content files its_links (objects_end files) in
      let start : objects_end files ≡ end_from 16 (objects_rooms files (placed_in files)) = ap (end_from 16) (objects_apart files [] (placed_in files)) in
      let cut : end_from 16 (rooms_of files (placed_in files)) ≡ end_from (end_from 16 (objects_rooms files (placed_in files))) (files_rooms files) =
      ap (end_from 16) (rooms_apart files (placed_in files)) ∙ end_append 16 (objects_rooms files (placed_in files)) (files_rooms files) in
      let literals : end_from (end_from 16 (objects_rooms files (placed_in files))) (files_rooms files) ≡ end_from 16 (objects_rooms files (placed_in files)) + files_bytes files = files_end (end_from 16 (objects_rooms files (placed_in files))) files (omega arith) in
      let low : 16 ≤ end_from 16 (objects_rooms files (placed_in files)) = end_behind 16 (objects_rooms files (placed_in files)) (objects_align files (rows_of files) (placed_in files) (rows_sound files sounds) (placed_give_room files (rows_of files))) (omega arith) in
      memory_by memory (frames_begin files (rows_of files)) (length (content_of files its_links (objects_end files))) end.2 (omega arith) no.fits small

  well_placed : is_well_placed memory (frames_begin files (rows_of files)) (content_of files its_links (objects_end files)) its_links its_functions (main_from files 0 (bodies_of files)) ≡ true
  well_placed =
      and_from
      (is_lawful_memory memory (frames_begin files (rows_of files)) (length (content_of files its_links (objects_end files))) && lawful.is_main memory its_links its_functions (slice_get its_functions (main_from files 0 (bodies_of files))))
      (list_all (spares (main_from files 0 (bodies_of files))) its_links && list_all (is_lawful_in memory its_links its_functions true) its_functions)
      (and_from (is_lawful_memory memory (frames_begin files (rows_of files)) (length (content_of files its_links (objects_end files)))) (lawful.is_main memory its_links its_functions (slice_get its_functions (main_from files 0 (bodies_of files)))) memory_passes main_passes)
      (and_from (list_all (spares (main_from files 0 (bodies_of files))) its_links) (list_all (is_lawful_in memory its_links its_functions true) its_functions)
      (links_spare files (placed_in files) (bodies_of files) (places_in files) (main_from files 0 (bodies_of files)) (λ k e. number_spares files (bodies_of files) k e has_main))
      (functions_pass (bodies_of files) its_functions (paired files)))

  pub passes : is_lawful memory (frames_begin files (rows_of files)) (content_of files its_links (objects_end files)) its_links its_functions (main_from files 0 (bodies_of files)) ≡ true
  passes =
      and_from (is_well_placed memory (frames_begin files (rows_of files)) (content_of files its_links (objects_end files)) its_links its_functions (main_from files 0 (bodies_of files)))
      (list_all (is_ready its_links its_functions) its_functions) well_placed (functions_ready (bodies_of files) its_functions (paired files))

pub joined_lawful : (files : List FileParts) (memory : ℕ) (p : ProgramParts) → AllByRecursion IsSound files → memory ≤ 2 ^ 26 → Joins files memory p → IsLawful memory p
joined_lawful files memory p sounds small joins =
    let made = joins.made in
    let all = passes files memory sounds (no_cause files memory joins.fits) small in
    let links' = links_of files (placed_in files) (bodies_of files) (places_in files) in
    let functions' = functions_from [] 0 files in
    let content' = content_of files links' (objects_end files) in
    subst (λ n. is_lawful memory p.frames p.content p.links p.functions n ≡ true) (sym made.main)
    (subst (λ fs. is_lawful memory p.frames p.content p.links fs (main_from files 0 (bodies_of files)) ≡ true) (sym made.functions)
    (subst (λ ls. is_lawful memory p.frames p.content ls functions' (main_from files 0 (bodies_of files)) ≡ true) (sym made.links)
    (subst (λ c. is_lawful memory p.frames c links' functions' (main_from files 0 (bodies_of files)) ≡ true) (sym made.content)
    (subst (λ n. is_lawful memory n content' links' functions' (main_from files 0 (bodies_of files)) ≡ true) (sym made.begin) all))))
