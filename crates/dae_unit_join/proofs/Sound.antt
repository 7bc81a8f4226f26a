-- Each function of a sound file has the parameters of its type, where the objects that the file uses have room anywhere.
use Rattle.std.proofs.Common.{◌≡◌, ℕ, ◌^◌, ◌≤◌, true, false, ◌&&◌, List, [], ◌∷◌, length, Option, Some, refl}
use Rattle.std.proofs.lemmas.Bool.{eqb-true}
use Rattle.std.specs.List.{AllByRecursion, list_all}
use Rattle.std.specs.Prelude.{nat_eq, not, ◌||◌}
use Rattle.dae_base.proofs.Laws.{and_first, and_second}
use Rattle.dae_program.specs.Lawful.{is_lawful_body}
use Rattle.dae_types_plans.specs.Steps.{parameter_types}
use Rattle.dae_types_typed.specs.Sound.{IsSound, HaveRoom, tables_of, is_called_main, function_at, is_sound_function}
use Rattle.dae_types_typed.specs.declared.files.FileParts.{FileParts}
use Rattle.dae_types_typed.specs.declared.files.TypedFunction.{TypedFunction}
use Rattle.dae_unit.specs.Parameters.{HasParameters}

module _ (file : FileParts) (memory : ℕ) (address : ℕ → ℕ) (parameters : ℕ → Option ℕ) where
  one_has : (f : TypedFunction) → is_sound_function file memory address parameters f ≡ true → HasParameters file f
  one_has f h =
      let count = nat_eq (length f.parameters) (length (parameter_types (tables_of file) f.routine)) in
      let body = is_lawful_body memory f.variables parameters true (function_at address f) in
      let main = not (is_called_main file f.routine) || (nat_eq (length f.parameters) 0 && is_lawful_body memory f.variables parameters false (function_at address f)) in
      eqb-true (length f.parameters) (length (parameter_types (tables_of file) f.routine)) (and_first count body (and_first (count && body) main h))

  all_have : (fs : List TypedFunction) → list_all (is_sound_function file memory address parameters) fs ≡ true → AllByRecursion (HasParameters file) fs
  all_have [] h = tt
  all_have (f ∷ fs) h = (
    one_has f (and_first (is_sound_function file memory address parameters f) (list_all (is_sound_function file memory address parameters) fs) h),
    all_have fs (and_second (is_sound_function file memory address parameters f) (list_all (is_sound_function file memory address parameters) fs) h),
  )

pub sound_have_parameters : (file : FileParts) (memory : ℕ) (address : ℕ → ℕ) → IsSound file → memory ≤ 2 ^ 26 → HaveRoom file memory address → AllByRecursion (HasParameters file) file.functions
sound_have_parameters file memory address sound small room =
    let parameters : ℕ → Option ℕ = λ n. Some (length (parameter_types (tables_of file) n)) in
    all_have file memory address parameters file.functions (sound.bodies memory address parameters small room (λ n used. refl))
