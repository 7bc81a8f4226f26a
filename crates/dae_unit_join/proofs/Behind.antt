-- Lists that grow at their ends.
use Rattle.std.proofs.Common.{◌≡◌, ℕ, suc, ◌+◌, ◌-◌, ◌^◌, ◌<◌, length, arith, List, [], ◌∷◌, ◌++◌, refl, ap, sym, ◌∙◌, length-append}
use Rattle.std.specs.Prelude.{min}
use Rattle.dae_program.specs.declared.program.Function.{Function}
use Rattle.dae_types_typed.specs.declared.files.TypedFunction.{TypedFunction}
use Rattle.dae_types_typed.specs.declared.files.FileParts.{FileParts}
use Rattle.dae_unit.specs.Meanings.{function_of, functions_in, functions_from}

pub functions_behind : (done : List Function) (k : ℕ) (fs : List TypedFunction) (f : TypedFunction) → functions_in done k (fs ++ f ∷ []) ≡ functions_in done k fs ++ function_of k f ∷ []
functions_behind done k [] f = refl
functions_behind done k (g ∷ gs) f = functions_behind (done ++ function_of k g ∷ []) k gs f

pub files_behind : (done : List Function) (k : ℕ) (fs : List FileParts) (f : FileParts) → functions_from done k (fs ++ f ∷ []) ≡ functions_in (functions_from done k fs) (k + length fs) f.functions
files_behind done k [] f = let e : k + 0 ≡ k = omega arith in rw e refl
files_behind done k (g ∷ gs) f = let e : k + suc (length gs) ≡ suc k + length gs = omega arith in rw e (files_behind (functions_in done k g.functions) (suc k) gs f)

-- one more file, where words number the files
pub further_file : (fs : List FileParts) (f : FileParts) (n : ℕ) (old new : List Function) → n ≡ min (length fs) (2 ^ 32 - 1) → (length fs < 2 ^ 32 → old ≡ functions_from [] 0 fs) → new ≡ functions_in old n f.functions
    → length (fs ++ f ∷ []) < 2 ^ 32 → new ≡ functions_from [] 0 (fs ++ f ∷ [])
further_file fs f n old new number so_far more few =
    let l = length-append fs (f ∷ []) in
    let exact : n ≡ 0 + length fs = omega (arith, number, few, l) in
    more ∙ ap (λ (xs : List Function). functions_in xs n f.functions) (so_far (omega (arith, few, l))) ∙ ap (λ (k : ℕ). functions_in (functions_from [] 0 fs) k f.functions) exact
    ∙ sym (files_behind [] 0 fs f)

-- the number that one more file has, where it stops at the last word
pub further_number : (fs : List FileParts) (f : FileParts) (n m : ℕ) → n ≡ min (length fs) (2 ^ 32 - 1) → m ≡ min (n + 1) (2 ^ 32 - 1) → m ≡ min (length (fs ++ f ∷ [])) (2 ^ 32 - 1)
further_number fs f n m number next = let l = length-append fs (f ∷ []) in omega (arith, number, next, l)
