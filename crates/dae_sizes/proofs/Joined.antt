-- The functions that files join to are small beside the files' definitions.
use Rattle.std.proofs.Common.{◌≡◌, ℕ, suc, List, [], ◌∷◌, ◌++◌, inl, inr, sym, ap, ◌∙◌, subst, append_assoc, append-nil}
use Rattle.dae_tree.specs.Files.{FileContents}
use Rattle.dae_tree.specs.FileViews.{view_externals}
use Rattle.dae_tree.specs.Trees.{External}
use Rattle.dae_program.specs.Trees.{Statements}
use Rattle.dae_program.specs.Views.{view_statements}
use Rattle.dae_program.specs.declared.program.Function.{Function}
use Rattle.dae_types_typed.specs.declared.files.FileParts.{FileParts}
use Rattle.dae_types_typed.specs.declared.files.TypedFunction.{TypedFunction}
use Rattle.dae_unit.specs.Meanings.{function_of, functions_in, functions_from}
use Rattle.std.specs.List.{AllByRecursion}
use Rattle.dae_base.proofs.Laws.{all_join}
use Rattle.dae_types_file_plans.specs.Promise.{FilesAreChecked}
use Rattle.dae_lower_bounds.specs.Constants.{InitialisesConstants}
use Rattle.dae_void_laws.specs.Tested.{BodiesTestValues}
use Rattle.dae_sizes.specs.Bodies.{BodiesPaid}
use Rattle.dae_sizes.specs.Constants.{FunctionsInitialiseConstants}
use Rattle.dae_sizes.proofs.Functions.{are_constant, are_tested}
use Rattle.dae_sizes.proofs.Starts.{starts_keep_literals}
use Rattle.dae_sizes.specs.From.{AreFrom}
use Rattle.dae_sizes.specs.Small.{HasFew, HasLittle, VariablesAreFew, CodeIsLittle}
use Rattle.dae_sizes.specs.Sources.{Source, sources_of, sources_in, start_by, IsTypedAs, AreTypedAs}
use Rattle.dae_sizes.specs.Tests.{HasTestedValues, FunctionsTestValues}
use Rattle.dae_sizes.specs.Promise.{FunctionsAreFew, FunctionsAreLittle}

-- ---- lists that come from one another

from_more : {X Y : Type 0} (R : X → Y → Type 0) (x : X) (xs : List X) (ys : List Y) → AreFrom R xs ys → AreFrom R (x ∷ xs) ys
from_more R x xs [] h = tt
from_more R x xs (y ∷ ys) h = inr h

from_append : {X Y : Type 0} (R : X → Y → Type 0) (xs ws : List X) (ys zs : List Y) → AreFrom R xs ys → AreFrom R ws zs → AreFrom R (xs ++ ws) (ys ++ zs)
from_append R [] ws [] zs h k = k
from_append R [] ws (y ∷ ys) zs h k = absurd h
from_append R (x ∷ xs) ws [] zs h k = from_more R x (xs ++ ws) zs (from_append R xs ws [] zs tt k)
from_append R (x ∷ xs) ws (y ∷ ys) zs (inl h) k = inl (h.0, from_append R xs ws ys zs h.1 k)
from_append R (x ∷ xs) ws (y ∷ ys) zs (inr h) k = inr (from_append R xs ws (y ∷ ys) zs h k)

-- ---- the functions of files, file by file

abbrev functions_of : ℕ → List TypedFunction → List Function
functions_of k [] = []
functions_of k (f ∷ fs) = function_of k f ∷ functions_of k fs

abbrev all_functions : ℕ → List FileParts → List Function
all_functions k [] = []
all_functions k (f ∷ fs) = functions_of k f.functions ++ all_functions (suc k) fs

functions_in_is : (done : List Function) (k : ℕ) (fs : List TypedFunction) → functions_in done k fs ≡ done ++ functions_of k fs
functions_in_is done k [] = sym (append-nil done)
functions_in_is done k (f ∷ fs) = functions_in_is (done ++ function_of k f ∷ []) k fs ∙ append_assoc done (function_of k f ∷ []) (functions_of k fs)

functions_from_is : (done : List Function) (k : ℕ) (fs : List FileParts) → functions_from done k fs ≡ done ++ all_functions k fs
functions_from_is done k [] = sym (append-nil done)
functions_from_is done k (f ∷ fs) =
    functions_from_is (functions_in done k f.functions) (suc k) fs
    ∙ (ap (λ gs. gs ++ all_functions (suc k) fs) (functions_in_is done k f.functions) ∙ append_assoc done (functions_of k f.functions) (all_functions (suc k) fs))

sources_from : (R : External → TypedFunction → Type 0) (S : Source → Function → Type 0) (ls : List (List ℕ)) (k : ℕ) → ((x : External) (f : TypedFunction) → R x f → S (record { external = x; literals = ls }) (function_of k f)) →
    (xs : List External) (fs : List TypedFunction) → AreFrom R xs fs → AreFrom S (sources_of ls xs) (functions_of k fs)
sources_from R S ls k h xs [] r = tt
sources_from R S ls k h [] (f ∷ fs) r = absurd r
sources_from R S ls k h (x ∷ xs) (f ∷ fs) (inl r) = inl (h x f r.0, sources_from R S ls k h xs fs r.1)
sources_from R S ls k h (x ∷ xs) (f ∷ fs) (inr r) = inr (sources_from R S ls k h xs (f ∷ fs) r)

-- what holds of each file's functions holds of all
joined : (S : Source → Function → Type 0) → ((k : ℕ) (c : FileContents) (file : FileParts) → IsTypedAs c file → AreFrom S (sources_of c.literals (view_externals c.externals)) (functions_of k file.functions)) →
    (k : ℕ) (cs : List FileContents) (files : List FileParts) → AreTypedAs cs files → AreFrom S (sources_in cs) (all_functions k files)
joined S h k [] [] t = tt
joined S h k [] (f ∷ fs) t = absurd t
joined S h k (c ∷ cs) [] t = absurd t
joined S h k (c ∷ cs) (f ∷ fs) t = from_append S (sources_of c.literals (view_externals c.externals)) (sources_in cs) (functions_of k f.functions) (all_functions (suc k) fs) (h k c f t.0) (joined S h (suc k) cs fs t.1)

pub functions_are_few : VariablesAreFew → FunctionsAreFew
functions_are_few few cs files t =
    let S : Source → Function → Type 0 = λ x f. HasFew x.external f.variables f.parameters (view_statements f.body) in
    subst (AreFrom S (sources_in cs)) (sym (functions_from_is [] 0 files))
    (joined S (λ k c file is. sources_from (λ x (f : TypedFunction). HasFew x f.variables f.parameters (view_statements f.body)) S c.literals k (λ x f h. h) (view_externals c.externals) file.functions (few (view_externals c.externals) (start_by c is.numbers) file is.typed is.parameters)) 0 cs files t)

pub functions_are_little : CodeIsLittle → FunctionsAreLittle
functions_are_little little cs files t =
    let S : Source → Function → Type 0 = λ x f. HasLittle x.literals x.external f.parameters (view_statements f.body) in
    subst (AreFrom S (sources_in cs)) (sym (functions_from_is [] 0 files))
    (joined S (λ k c file is. sources_from (λ x (f : TypedFunction). HasLittle (let s = start_by c is.numbers in s.literals) x f.parameters (view_statements f.body)) S c.literals k (λ x f h. subst (λ (ls : List (List ℕ)). HasLittle ls x f.parameters (view_statements f.body)) (starts_keep_literals c.stdio c.stdlib is.numbers c.literals) h) (view_externals c.externals) file.functions (little (view_externals c.externals) (start_by c is.numbers) file is.typed is.parameters)) 0 cs files t)

-- ---- what holds of the functions of each file

all_functions_have : (P : Statements → Type 0) (k : ℕ) (fs : List TypedFunction) → AllByRecursion (λ (f : TypedFunction). P (view_statements f.body)) fs → AllByRecursion (λ (f : Function). P (view_statements f.body)) (functions_of k fs)
all_functions_have P k [] h = tt
all_functions_have P k (f ∷ fs) h = (h.0, all_functions_have P k fs h.1)

all_files_have : (P : Statements → Type 0) → ((c : FileContents) (file : FileParts) → IsTypedAs c file → AllByRecursion (λ (f : TypedFunction). P (view_statements f.body)) file.functions) →
    (k : ℕ) (cs : List FileContents) (files : List FileParts) → AreTypedAs cs files → AllByRecursion (λ (f : Function). P (view_statements f.body)) (all_functions k files)
all_files_have P each k [] [] t = tt
all_files_have P each k [] (f ∷ fs) t = absurd t
all_files_have P each k (c ∷ cs) [] t = absurd t
all_files_have P each k (c ∷ cs) (f ∷ fs) t =
    all_join (λ (g : Function). P (view_statements g.body)) (functions_of k f.functions) (all_functions (suc k) fs)
    (all_functions_have P k f.functions (each c f t.0)) (all_files_have P each (suc k) cs fs t.1)

all_have : (P : Statements → Type 0) → ((c : FileContents) (file : FileParts) → IsTypedAs c file → AllByRecursion (λ (f : TypedFunction). P (view_statements f.body)) file.functions) →
    (cs : List FileContents) (files : List FileParts) → AreTypedAs cs files → AllByRecursion (λ (f : Function). P (view_statements f.body)) (functions_from [] 0 files)
all_have P each cs files t =
    subst (AllByRecursion (λ (f : Function). P (view_statements f.body))) (sym (functions_from_is [] 0 files)) (all_files_have P each 0 cs files t)

-- aggregates get constants alone
pub functions_initialise_constants : BodiesPaid → FilesAreChecked → FunctionsInitialiseConstants
functions_initialise_constants bodies checked cs files t =
    all_have InitialisesConstants (λ c file is. are_constant bodies checked (view_externals c.externals) (start_by c is.numbers) file is.typed) cs files t

-- no statement tests what has no value
pub functions_test_values : BodiesTestValues → FilesAreChecked → FunctionsTestValues
functions_test_values tests checked cs files t =
    all_have HasTestedValues (λ c file is. are_tested tests checked c.stdio c.stdlib is.numbers c.literals (view_externals c.externals) file is.typed) cs files t
