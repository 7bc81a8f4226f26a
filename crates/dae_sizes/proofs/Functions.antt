-- The functions of a typed file are small beside its definitions.
use Rattle.std.proofs.Common.{◌≡◌, ℕ, zero, suc, ◌+◌, ◌*◌, ◌≤◌, Bool, List, [], ◌∷◌, ◌++◌, length, drop, Some, None, Result, Ok, Err, inl, inr, refl, sym, ap, ◌∙◌, subst, arith}
use Rattle.std.proofs.lemmas.List.{length-drop}
use Rattle.std.proofs.lemmas.List.Sums.{count_by-le-length}
use Rattle.std.specs.Prelude.{slice_get}
use Rattle.dae_tree.specs.Marks.{literal_numbers}
use Rattle.dae_tree.specs.FileViews.{view_externals}
use Rattle.dae_tree.specs.Statements.{spell_external, spell_file}
use Rattle.dae_tree.specs.Trees.{External}
use Rattle.dae_program.specs.Trees as tree
use Rattle.dae_program.specs.Views.{view_statements}
use Rattle.dae_types_kinds.specs.declared.rules.Breach.{Breach}
use Rattle.dae_types_kinds.specs.declared.tables.Local.{Local}
use Rattle.dae_types_kinds.specs.declared.tables.Routine.{Routine}
use Rattle.dae_types_kinds.specs.declared.tables.Storage.{Storage}
use Rattle.dae_types_kinds.specs.declared.types.Shape.{Shape}
use Rattle.dae_types_kinds.specs.declared.types.Shape.TheVariants as shape
use Rattle.dae_types_kinds.specs.Tables.{Tables}
use Rattle.dae_types_kinds.specs.Types.{shape_of, shape_or}
use Rattle.dae_types_kinds.specs.Values.{routine_type, parameters_of}
use Rattle.dae_types_rules.specs.Plan.{IsChecked, check_of}
use Rattle.dae_types_plans.specs.Steps.{parameters_from, parameter_types}
use Rattle.dae_types_file_plans.specs.Files.{Product, Declares, Data, Body, LibraryNames, start_of, plan_file}
use Rattle.dae_types_file_plans.specs.Promise.{FilesAreChecked}
use Rattle.dae_types_typed.specs.Frames.{is_variable, variables_of, slots_of}
use Rattle.dae_types_typed.specs.Reading.{WrittenFunction, written_in, view_functions}
use Rattle.dae_types_typed.specs.Sound.{tables_of}
use Rattle.dae_types_typed.specs.declared.files.FileParts.{FileParts}
use Rattle.dae_types_typed.specs.declared.files.TypedFunction.{TypedFunction}
use Rattle.dae_lower_formed.specs.Sizes.{most_made_in}
use Rattle.dae_sizes.specs.Worth.{pay_of_all, priced, PartsPay, TokensPay}
use Rattle.dae_sizes.specs.Bodies.{PlannedBody, bodies_in, IsPaidBy, ArePaidBy, BodiesPaid}
use Rattle.dae_sizes.specs.Paid.{for_each, bytes_of_literal, price}
use Rattle.dae_lower_formed.specs.Code.{most_code_in}
use Rattle.std.specs.List.{AllByRecursion}
use Rattle.dae_lower_bounds.specs.Constants.{InitialisesConstants}
use Rattle.dae_lower_bounds.specs.Voids.{void_statements}
use Rattle.dae_void_laws.specs.Tested.{BodyTestsValues, BodiesTestValues}
use Rattle.dae_sizes.specs.From.{AreFrom}
use Rattle.dae_unit.specs.Parameters.{HasParameters}
use Rattle.dae_sizes.specs.Promise.{FunctionsAreCounted}
use Rattle.dae_sizes.specs.Small.{IsPlanned, HasFew, HasLittle, VariablesAreFew, CodeIsLittle}
use Rattle.dae_sizes.specs.Tests.{HasTestedValues}
use Rattle.dae_sizes.proofs.From.{AreAlike, from_alike, alike_all}
use Rattle.dae_sizes.proofs.Trees.{made_in, code_in, slots_made, slots_code}

-- ---- types by tables that have the same shapes

shape_same : (s t : Tables) → s.shapes ≡ t.shapes → (n : ℕ) → shape_of s n ≡ shape_of t n
unfolding shape_of
shape_same s t e n = ap (λ (xs : List Shape). shape_or (slice_get xs n)) e

from_same : (s t : Tables) → s.shapes ≡ t.shapes → (k : ℕ) (x : Shape) → parameters_from k s x ≡ parameters_from k t x
from_same s t e zero x = refl
from_same s t e (suc k) (shape.Parameter before u) = ap (λ xs. xs ++ (u ∷ [])) (from_same s t e k (shape_of s before) ∙ ap (parameters_from k t) (shape_same s t e before))
from_same s t e (suc k) x = refl

types_same : (s t : Tables) → s.shapes ≡ t.shapes → s.routines ≡ t.routines → (f : ℕ) → parameter_types s f ≡ parameter_types t f
unfolding parameter_types
types_same s t e r f =
    let type_in : List Routine → ℕ = λ rs. routine_type (slice_get rs f) in
    from_same s t e (length s.shapes) (shape_of s (parameters_of (shape_of s (type_in s.routines))))
    ∙ ap (λ (k : ℕ). parameters_from k t (shape_of s (parameters_of (shape_of s (type_in s.routines))))) (ap length e)
    ∙ ap (parameters_from (length t.shapes) t) (shape_same s t e (parameters_of (shape_of s (type_in s.routines)))
    ∙ ap (λ x. shape_of t (parameters_of x)) (shape_same s t e (type_in s.routines) ∙ ap (λ rs. shape_of t (type_in rs)) r))

-- ---- functions with their bodies

-- a function in memory has what the body of one has
record IsBodyOf (t : Tables) (d : PlannedBody) (f : TypedFunction) : Type 0 where
  pub routine : f.routine ≡ d.routine
  pub parameters : f.parameters ≡ slots_of t (length (parameter_types t d.routine)) d.locals d.storages
  pub variables : f.variables ≡ variables_of (length (parameter_types t d.routine)) d.storages
  pub body : view_statements f.body ≡ d.statements

abbrev behind_first : List WrittenFunction → List WrittenFunction
behind_first [] = []
behind_first (w ∷ ws) = ws

abbrev first_or : WrittenFunction → List WrittenFunction → WrittenFunction
first_or w [] = w
first_or w (x ∷ ws) = x

alike : (t : Tables) (spellings : List (List ℕ)) (products : List Product) (fs : List TypedFunction) → view_functions fs ≡ written_in t spellings products → AreAlike (IsBodyOf t) (bodies_in products) fs
alike t spellings [] [] e = tt
alike t spellings [] (f ∷ fs) e = absurd cc
alike t spellings (Declares d ∷ xs) fs e = alike t spellings xs fs e
alike t spellings (Data o items ∷ xs) fs e = alike t spellings xs fs e
alike t spellings (Body r locals storages body ∷ xs) [] e = absurd cc
alike t spellings (Body r locals storages body ∷ xs) (f ∷ fs) e =
    let w = first_or (record { routine = 0; name = []; parameters = []; variables = 0; frame = 0; body = tree.Done }) in
    let h = ap w e in (
      record { routine = ap (λ (z : WrittenFunction). z.routine) h; parameters = ap (λ (z : WrittenFunction). z.parameters) h; variables = ap (λ (z : WrittenFunction). z.variables) h; body = ap (λ (z : WrittenFunction). z.body) h },
      alike t spellings xs fs (ap behind_first e),
    )

slots_locals : (t : Tables) (n : ℕ) (xs : List Local) (ys : List Storage) → length (slots_of t n xs ys) ≤ length xs
slots_locals t zero xs ys = omega arith
slots_locals t (suc n) [] ys = omega arith
slots_locals t (suc n) (x ∷ xs) [] = omega arith
slots_locals t (suc n) (x ∷ xs) (y ∷ ys) = let h = slots_locals t n xs ys in omega (arith, h)

slots_storages : (t : Tables) (n : ℕ) (xs : List Local) (ys : List Storage) → length (slots_of t n xs ys) ≤ length ys
slots_storages t zero xs ys = omega arith
slots_storages t (suc n) [] ys = omega arith
slots_storages t (suc n) (x ∷ xs) [] = omega arith
slots_storages t (suc n) (x ∷ xs) (y ∷ ys) = let h = slots_storages t n xs ys in omega (arith, h)

variables_storages : (n : ℕ) (ys : List Storage) → n ≤ length ys → variables_of n ys ≤ 1 + length ys
variables_storages n ys l =
    let h = count_by-le-length is_variable (drop n ys) in
    let g = length-drop n ys in omega (arith, l, h, g)

-- ---- prices

no_price : (bs : List ℕ) → for_each 0 bs ≡ 0
no_price [] = refl
no_price (b ∷ bs) = let h = no_price bs in omega (arith, h)

nothing_priced : (ls : List (List ℕ)) (ns : List ℕ) → priced (price 0 ls) ns ≡ 0
nothing_priced ls [] = refl
nothing_priced ls (n ∷ ns) = let h = no_price (bytes_of_literal ls n) in let g = nothing_priced ls ns in omega (arith, h, g)

one_price : (bs : List ℕ) → for_each 1 bs ≡ length bs
one_price [] = refl
one_price (b ∷ bs) = let h = one_price bs in omega (arith, h)

twice_priced : (ls : List (List ℕ)) (ns : List ℕ) → priced (price 1 ls) ns ≡ 2 * priced (λ n. length (bytes_of_literal ls n)) ns
twice_priced ls [] = refl
twice_priced ls (n ∷ ns) = let h = one_price (bytes_of_literal ls n) in let g = twice_priced ls ns in omega (arith, h, g)

-- ---- the laws

-- the parameters are no more than the locals, and than the storages
record AreWithin (t : Tables) (d : PlannedBody) (f : TypedFunction) : Type 0 where
  pub locals : length f.parameters ≤ length d.locals
  pub variables : f.variables ≤ 1 + length d.storages

within : (t : Tables) (file : FileParts) (d : PlannedBody) (f : TypedFunction) → file.shapes ≡ t.shapes → file.routines ≡ t.routines → IsBodyOf t d f → HasParameters file f → AreWithin t d f
within t file d f es er b h =
    let n = length (parameter_types t d.routine) in
    let types : parameter_types (tables_of file) f.routine ≡ parameter_types t d.routine = types_same (tables_of file) t es er f.routine ∙ ap (parameter_types t) b.routine in
    let same : length f.parameters ≡ n = h ∙ ap length types in
    let slots = ap length b.parameters in
    let g = slots_locals t n d.locals d.storages in
    let j = slots_storages t n d.locals d.storages in
    let k = variables_storages n d.storages (omega (arith, same, slots, j)) in
    record { locals = omega (arith, slots, g); variables = rw b.variables k }

few : (pay : TokensPay) (ls : List (List ℕ)) (t : Tables) (x : External) (d : PlannedBody) (f : TypedFunction) → IsPaidBy 0 ls x d → IsBodyOf t d f → AreWithin t d f → HasFew x f.variables f.parameters (view_statements f.body)
few pay ls t x d f p b w =
    let body = ap most_made_in b.body in
    let block = made_in d.statements in
    let slots = slots_made f.parameters in
    let paid = pay (price 0 ls) x in
    let free = nothing_priced ls (literal_numbers (spell_external x [])) in
    (p.definition, omega (arith, body, block, slots, paid, free, p.locals, p.storages, p.weight, w.locals, w.variables))

little : (pay : TokensPay) (ls : List (List ℕ)) (t : Tables) (x : External) (d : PlannedBody) (f : TypedFunction) → IsPaidBy 1 ls x d → IsBodyOf t d f → AreWithin t d f → HasLittle ls x f.parameters (view_statements f.body)
little pay ls t x d f p b w =
    let body = ap most_code_in b.body in
    let block = code_in d.statements in
    let slots = slots_code f.parameters in
    let paid = pay (price 1 ls) x in
    let cost = twice_priced ls (literal_numbers (spell_external x [])) in
    omega (arith, body, block, slots, paid, cost, p.locals, p.weight, w.locals)

some_same : {X : Type 0} (d : X) (x y : X) → Some x ≡ Some y → x ≡ y
some_same d x y e = ap (λ o. elim o [ None ↦ d | Some z ↦ z ]) e

-- what no rule is broken in is what a check gives
paid_by : BodiesPaid → FilesAreChecked → (c : ℕ) (xs : List External) (s t : Tables) (products : List Product) → c ≤ 1 → IsChecked (plan_file xs) s (Ok (t, products)) → ArePaidBy c s.literals xs (bodies_in products)
paid_by bodies checked c xs s t products low h = by (check_of (plan_file xs) s) refl (checked xs s) where
  by : (r : Result (Tables × List Product) Breach) → check_of (plan_file xs) s ≡ r → IsChecked (plan_file xs) s r → ArePaidBy c s.literals xs (bodies_in products)
  by (Ok y) e k = subst (λ (ps : List Product). ArePaidBy c s.literals xs (bodies_in ps)) (some_same products y.1 products (sym k.0.1 ∙ h.0.1)) (bodies c xs s y.0 y.1 low e)
  by (Err f) e k = absurd (h.1 f.rule f.place k)

from_paid : (c : ℕ) (ls : List (List ℕ)) (xs : List External) (ds : List PlannedBody) → ArePaidBy c ls xs ds → AreFrom (IsPaidBy c ls) xs ds
from_paid c ls xs [] h = tt
from_paid c ls [] (d ∷ ds) h = absurd h
from_paid c ls (x ∷ xs) (d ∷ ds) (inl h) = inl (h.0, from_paid c ls xs ds h.1)
from_paid c ls (x ∷ xs) (d ∷ ds) (inr h) = inr (from_paid c ls xs (d ∷ ds) h)

pub variables_are_few : TokensPay → BodiesPaid → FilesAreChecked → VariablesAreFew
variables_are_few pay bodies checked xs s file is parameters =
    let t = is.tables in
    let reads = is.reads in
    let paid = from_paid 0 s.literals xs (bodies_in is.products) (paid_by bodies checked 0 xs s t is.products (omega arith) is.checked) in
    let all = alike_all (IsBodyOf t) (HasParameters file) (bodies_in is.products) file.functions parameters (alike t is.spellings is.products file.functions reads.functions) in
    from_alike (λ x d f p b. few pay s.literals t x d f p b.0 (within t file d f reads.shapes reads.routines b.0 b.1)) xs (bodies_in is.products) file.functions paid all

pub code_is_little : TokensPay → BodiesPaid → FilesAreChecked → CodeIsLittle
code_is_little pay bodies checked xs s file is parameters =
    let t = is.tables in
    let reads = is.reads in
    let paid = from_paid 1 s.literals xs (bodies_in is.products) (paid_by bodies checked 1 xs s t is.products (omega arith) is.checked) in
    let all = alike_all (IsBodyOf t) (HasParameters file) (bodies_in is.products) file.functions parameters (alike t is.spellings is.products file.functions reads.functions) in
    from_alike (λ x d f p b. little pay s.literals t x d f p b.0 (within t file d f reads.shapes reads.routines b.0 b.1)) xs (bodies_in is.products) file.functions paid all

-- ---- how many functions there are

same_length : {Y Z : Type 0} (T : Y → Z → Type 0) (ys : List Y) (zs : List Z) → AreAlike T ys zs → length ys ≡ length zs
same_length T [] [] h = refl
same_length T [] (z ∷ zs) h = absurd h
same_length T (y ∷ ys) [] h = absurd h
same_length T (y ∷ ys) (z ∷ zs) h = ap suc (same_length T ys zs h.1)

-- the tokens of definitions pay 8 for each body
bodies_cost : TokensPay → (ls : List (List ℕ)) (xs : List External) (ds : List PlannedBody) → ArePaidBy 0 ls xs ds → 8 * length ds ≤ pay_of_all (price 0 ls) xs
bodies_cost pay ls xs [] h = omega arith
bodies_cost pay ls [] (d ∷ ds) h = absurd h
bodies_cost pay ls (x ∷ xs) (d ∷ ds) (inl h) =
    let one = h.0 in let weight = one.weight in let paid = pay (price 0 ls) x in let rest = bodies_cost pay ls xs ds h.1 in omega (arith, weight, paid, rest)
bodies_cost pay ls (x ∷ xs) (d ∷ ds) (inr h) = let rest = bodies_cost pay ls xs (d ∷ ds) h in omega (arith, rest)

functions_of_file : TokensPay → PartsPay → BodiesPaid → FilesAreChecked → (xs : List External) (s : Tables) (file : FileParts) → IsPlanned xs s file → 2 * length file.functions ≤ length (spell_file xs [])
functions_of_file pay parts bodies checked xs s file is =
    let t = is.tables in
    let reads = is.reads in
    let same = same_length (IsBodyOf t) (bodies_in is.products) file.functions (alike t is.spellings is.products file.functions reads.functions) in
    let cost = bodies_cost pay s.literals xs (bodies_in is.products) (paid_by bodies checked 0 xs s t is.products (omega arith) is.checked) in
    let whole = parts (price 0 s.literals) xs in
    let free = nothing_priced s.literals (literal_numbers (spell_file xs [])) in
    omega (arith, same, cost, whole, free)

pub functions_are_counted : TokensPay → PartsPay → BodiesPaid → FilesAreChecked → FunctionsAreCounted
functions_are_counted pay parts bodies checked [] [] h = omega arith
functions_are_counted pay parts bodies checked [] (f ∷ fs) h = absurd h
functions_are_counted pay parts bodies checked (c ∷ cs) [] h = absurd h
functions_are_counted pay parts bodies checked (c ∷ cs) (f ∷ fs) h =
    let one = functions_of_file pay parts bodies checked (view_externals c.externals) h.0.0 f h.0.1 in
    let rest = functions_are_counted pay parts bodies checked cs fs h.1 in
    omega (arith, one, rest)

-- ---- what is true of all that comes from others

all_from : {X Y : Type 0} {R : X → Y → Type 0} (P : Y → Type 0) → ((x : X) (y : Y) → R x y → P y) → (xs : List X) (ys : List Y) → AreFrom R xs ys → AllByRecursion P ys
all_from P h xs [] r = tt
all_from P h [] (y ∷ ys) r = absurd r
all_from P h (x ∷ xs) (y ∷ ys) (inl r) = (h x y r.0, all_from P h xs ys r.1)
all_from P h (x ∷ xs) (y ∷ ys) (inr r) = all_from P h xs (y ∷ ys) r

abbrev pub IsConstant : TypedFunction → Type 0
IsConstant f = InitialisesConstants (view_statements f.body)

pub are_constant : BodiesPaid → FilesAreChecked → (xs : List External) (s : Tables) (file : FileParts) → IsPlanned xs s file → AllByRecursion IsConstant file.functions
are_constant bodies checked xs s file is =
    let t = is.tables in
    let reads = is.reads in
    let paid = from_paid 0 s.literals xs (bodies_in is.products) (paid_by bodies checked 0 xs s t is.products (omega arith) is.checked) in
    all_from {R = λ x f. IsConstant f} IsConstant (λ x f h. h) xs file.functions
    (from_alike {S = λ x f. IsConstant f} (λ x d f p b. subst InitialisesConstants (sym b.body) p.constants) xs (bodies_in is.products) file.functions paid (alike t is.spellings is.products file.functions reads.functions))

-- ---- tests

tested_bodies : (ps : List Product) → AllByRecursion BodyTestsValues ps → AllByRecursion (λ (d : PlannedBody). HasTestedValues d.statements) (bodies_in ps)
tested_bodies [] h = tt
tested_bodies (Declares d ∷ ps) h = tested_bodies ps h.1
tested_bodies (Data o items ∷ ps) h = tested_bodies ps h.1
tested_bodies (Body r locals storages body ∷ ps) h = (h.0, tested_bodies ps h.1)

tested_alike : (t : Tables) (ds : List PlannedBody) (fs : List TypedFunction) → AllByRecursion (λ (d : PlannedBody). HasTestedValues d.statements) ds → AreAlike (IsBodyOf t) ds fs → AllByRecursion (λ (f : TypedFunction). HasTestedValues (view_statements f.body)) fs
tested_alike t [] [] h a = tt
tested_alike t [] (f ∷ fs) h a = absurd a
tested_alike t (d ∷ ds) [] h a = absurd a
tested_alike t (d ∷ ds) (f ∷ fs) h a = (let b = a.0 in ap void_statements b.body ∙ h.0, tested_alike t ds fs h.1 a.1)

-- what no rule is broken in is what a check gives
tested_by : BodiesTestValues → FilesAreChecked → (stdio stdlib : Bool) (n : LibraryNames) (ls : List (List ℕ)) (xs : List External) (t : Tables) (products : List Product) → IsChecked (plan_file xs) (start_of stdio stdlib n ls) (Ok (t, products)) → AllByRecursion BodyTestsValues products
tested_by tests checked stdio stdlib n ls xs t products h = by (check_of (plan_file xs) s) refl (checked xs s) where
  s : Tables
  s = start_of stdio stdlib n ls

  by : (r : Result (Tables × List Product) Breach) → check_of (plan_file xs) s ≡ r → IsChecked (plan_file xs) s r → AllByRecursion BodyTestsValues products
  by (Ok y) e k = subst (AllByRecursion BodyTestsValues) (some_same products y.1 products (sym k.0.1 ∙ h.0.1)) (tests xs stdio stdlib n ls y.0 y.1 e)
  by (Err f) e k = absurd (h.1 f.rule f.place k)

pub are_tested : BodiesTestValues → FilesAreChecked → (stdio stdlib : Bool) (n : LibraryNames) (ls : List (List ℕ)) (xs : List External) (file : FileParts) → IsPlanned xs (start_of stdio stdlib n ls) file → AllByRecursion (λ (f : TypedFunction). HasTestedValues (view_statements f.body)) file.functions
are_tested tests checked stdio stdlib n ls xs file is =
    let t = is.tables in
    let reads = is.reads in
    tested_alike t (bodies_in is.products) file.functions (tested_bodies is.products (tested_by tests checked stdio stdlib n ls xs t is.products is.checked)) (alike t is.spellings is.products file.functions reads.functions)
