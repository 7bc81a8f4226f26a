-- What all tests show together.
use Rattle.std.proofs.Common.{◌≡◌, true, ◌&&◌, ◌||◌, List, [], ◌∷◌, length}
use Rattle.std.proofs.lemmas.Bool.{and_from}
use Rattle.std.specs.Prelude.{nat_eq, not}
use Rattle.std.specs.List.{list_all}
use Rattle.dae_base.proofs.Laws.{and_first, and_second}
use Rattle.dae_program.specs.Lawful.{prints_bytes}
use Rattle.dae_program.specs.SetFirst.{is_set_first}
use Rattle.dae_program.specs.Views.{view_statements}
use Rattle.dae_types_typed.specs.declared.files.FileParts.{FileParts}
use Rattle.dae_types_typed.specs.declared.files.TypedFunction.{TypedFunction}
use Rattle.dae_types_typed.specs.Sound.{defined_routines, function_at, has_complete_type, is_called_main, is_ready_function, routines_in, tables_of, IsSound}
use Rattle.dae_types_sound.specs.declared.extents.FileNames.{FileNames}
use Rattle.dae_types_sound.specs.Declarations.{is_sound_declaration, is_sound_use, same_numbers}
use Rattle.dae_types_sound.specs.Distinct.{have_own_names}
use Rattle.dae_types_sound.specs.Fit.{are_fit_statements, body_jumps, function_extent, has_parameters, is_fit_function}
use Rattle.dae_types_sound.specs.Names.{names_in}
use Rattle.dae_types_ready.specs.Reads.{is_reading_body}
use Rattle.dae_types_sound.specs.Shapes.{are_laid_out, are_sound_shapes}
use Rattle.dae_types_sound.proofs.Distinct.{own_names}
use Rattle.dae_types_sound.proofs.Fitting.{print_bytes, sound_functions}
use Rattle.dae_types_ready.proofs.Reading.{set_first}
use Rattle.dae_types_sound.proofs.Small.{are_used, calls_sound, chains, elements_complete, layouts, numbers_equal, sound_declarations, uses_declared}

ready : (f : FileParts) (n : FileNames) (ts : List TypedFunction) → list_all (is_fit_function f n) ts ≡ true → list_all is_reading_body ts ≡ true → list_all is_ready_function ts ≡ true
ready f n [] h g = h
ready f n (t ∷ ts) h g =
    let main = is_called_main f t.routine in
    let here = and_first (is_fit_function f n t) (list_all (is_fit_function f n) ts) h in
    let body = and_second (not main || nat_eq (length t.parameters) 0) (are_fit_statements n (function_extent t) (body_jumps (not main)) (view_statements t.body)) (and_second (has_parameters f t) ((not main || nat_eq (length t.parameters) 0) && are_fit_statements n (function_extent t) (body_jumps (not main)) (view_statements t.body)) here) in
    and_from (is_ready_function t) (list_all is_ready_function ts)
    (and_from (is_set_first (function_at (λ n. 0) t)) (prints_bytes (view_statements t.body)) (set_first t (and_first _ _ g)) (print_bytes n (function_extent t) (body_jumps (not main)) (view_statements t.body) body))
    (ready f n ts (and_second _ _ h) (and_second _ _ g))

pub sound_parts : (f : FileParts) → list_all (is_fit_function f (names_in f)) f.functions ≡ true → list_all is_reading_body f.functions ≡ true
    → are_laid_out (tables_of f) 0 f.structures ≡ true → are_sound_shapes (tables_of f) 0 f.shapes ≡ true → list_all (has_complete_type (tables_of f)) f.components ≡ true
    → list_all (is_sound_declaration f) f.declarations ≡ true → same_numbers (routines_in f.functions) (defined_routines f.declarations) ≡ true
    → list_all (is_sound_use f) f.uses ≡ true → have_own_names f ≡ true → IsSound f
sound_parts f fit reads laid shapes members declared bodies used names =
    record {
      bodies = λ memory address parameters small room callable. sound_functions f (names_in f) (are_used f) memory address parameters small room callable f.functions fit;
      ready = ready f (names_in f) f.functions fit reads;
      layouts = layouts (tables_of f) laid;
      elements = elements_complete (tables_of f) shapes;
      chains = chains (tables_of f) shapes;
      members = members;
      declarations = sound_declarations f f.declarations declared;
      functions = numbers_equal (routines_in f.functions) (defined_routines f.declarations) bodies;
      uses = uses_declared f used;
      calls = calls_sound f used;
      names = own_names f names;
    }
