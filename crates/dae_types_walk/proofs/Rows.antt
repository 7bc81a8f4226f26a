-- Parts of a tree in memory that are lists: what the plan of the whole gives is what the plan over the list gives.
use Rattle.std.proofs.Common.{◌≡◌, ℕ, suc, [], ◌∷◌, length, List, Option, Some, None, Bool, Result, Ok, Err, refl, sym, ap, subst, ◌∙◌}
use Rattle.std.specs.Prelude.{Box, Vec}
use Rattle.std.specs.declared.alloc.Global.{Global}
use Rattle.dae_base.specs.declared.Place.{Place}
use Rattle.dae_tree.specs.declared.expressions.Name.{Name}
use Rattle.dae_tree.specs.declared.expressions.Expression.{Expression}
use Rattle.dae_tree.specs.declared.expressions.Expression.TheVariants as code
use Rattle.dae_tree.specs.declared.expressions.TypeName.{TypeName}
use Rattle.dae_tree.specs.declared.expressions.Specifier.{Specifier}
use Rattle.dae_tree.specs.declared.expressions.Specifier.TheVariants as specifier
use Rattle.dae_tree.specs.declared.expressions.Member.{Member}
use Rattle.dae_tree.specs.declared.expressions.Enumerator.{Enumerator}
use Rattle.dae_tree.specs.declared.expressions.Declarator.{Declarator}
use Rattle.dae_tree.specs.declared.expressions.Declarator.TheVariants as declarator
use Rattle.dae_tree.specs.declared.expressions.Parameter.{Parameter}
use Rattle.dae_tree.specs.declared.expressions.TrailingComma.{TrailingComma}
use Rattle.dae_tree.specs.Trees as tree
use Rattle.dae_tree.specs.Depth.{place_of}
use Rattle.dae_tree.specs.Views.{has_comma, view, views, view_specifier, views_members, views_enumerators, view_declarator, views_parameters}
use Rattle.dae_tree.proofs.Laws.{view_call, view_sizeof_type, view_cast, view_structure_body, view_enumeration_body, view_function}
use Rattle.dae_types_kinds.specs.declared.rules.Breach.{Breach}
use Rattle.dae_types_kinds.specs.declared.rules.CheckError.{CheckError}
use Rattle.dae_types_kinds.specs.declared.rules.CheckError.TheVariants as errors
use Rattle.dae_types_kinds.specs.declared.tables.Context.{Context}
use Rattle.dae_types_kinds.specs.declared.tables.NamedType.{NamedType}
use Rattle.dae_types_kinds.specs.Tables.{Tables, found_name}
use Rattle.dae_types_kinds.specs.Types.{no_parameters_id}
use Rattle.dae_types_kinds.specs.Values.{Typed, called}
use Rattle.dae_types_rules.specs.Plan.{CheckPlan, pure, both, Fails, Gives, check_of, ◌>>=◌}
use Rattle.dae_types_plans.specs.Steps.{call_at, call_by, call_of, cast_at, count_of, does, function, name_in, routine_in, scoped, sizeof_at, value_at}
use Rattle.dae_types_plans.specs.Expressions.{plan, plan_specifier, plan_declarator, plan_parameters, plan_value}
use Rattle.dae_program.specs.Trees as program
use Rattle.dae_types_folding.specs.declared.value.TypedValue.{TypedValue}
use Rattle.dae_types_folding.specs.Views.{MakesValue, view_value}
use Rattle.dae_types_walk.specs.Plans.{beside_name, function_named, plan_all, plan_call, plan_no_call, plan_type_name}

pub arguments_counted : (xs : List Expression) → count_of (views xs) ≡ length xs
arguments_counted [] = refl
arguments_counted (x ∷ xs) = ap suc (arguments_counted xs)

-- ---- calls

-- the table beside what a function gives
abbrev beside : Tables → Result Typed Breach → Result (Tables × Typed) Breach
beside s (Ok x) = Ok (s, x)
beside s (Err f) = Err f

with_tables : (s : Tables) (r : Result TypedValue CheckError) (x : Typed) → MakesValue r x → Gives {Y = Tables × Typed} (λ v. (s, view_value v)) r (Ok (s, x))
with_tables s (Ok v) x h = ap (beside s) h
with_tables s (Err errors.Memory) x h = h
with_tables s (Err errors.Unsound) x h = h
with_tables s (Err (errors.Rule f)) x h = ap (beside s) h

-- a call behind what its site says, and behind its arguments
abbrev after_site : Place → ℕ → CheckPlan (List program.Expression) → Result (Tables × Unit {0}) Breach → Result (Tables × Typed) Breach
after_site p f args y = y >>= λ x. check_of (does (λ s es. (s, called p s f es)) args) x.0

abbrev after_arguments : Place → ℕ → Result (Tables × List program.Expression) Breach → Result (Tables × Typed) Breach
after_arguments p f y = y >>= λ x. Ok (x.0, called p x.0 f x.1)

pub call_refused : (e : CheckError) (p : Place) (n : Name) (f : ℕ) (xs : List Expression) (s : Tables) → Fails e (check_of (call_at p n f (length xs)) s) → Fails e (check_of (plan_call p n f xs) s)
call_refused errors.Memory p n f xs s h = h
call_refused errors.Unsound p n f xs s h = h
call_refused (errors.Rule b) p n f xs s h = ap (after_site p f (plan_all (Some f) xs)) h

pub call_broken : (e : CheckError) (p : Place) (n : Name) (f : ℕ) (xs : List Expression) (s begun : Tables) → check_of (call_at p n f (length xs)) s ≡ Ok (begun, tt {0}) → Fails e (check_of (plan_all (Some f) xs) begun) → Fails e (check_of (plan_call p n f xs) s)
call_broken errors.Memory p n f xs s begun h g = g
call_broken errors.Unsound p n f xs s begun h g = g
call_broken (errors.Rule b) p n f xs s begun h g = ap (after_site p f (plan_all (Some f) xs)) h ∙ ap (after_arguments p f) g

pub call_done : (r : Result TypedValue CheckError) (p : Place) (n : Name) (f : ℕ) (xs : List Expression) (s begun after : Tables) (es : List program.Expression) → check_of (call_at p n f (length xs)) s ≡ Ok (begun, tt {0}) → check_of (plan_all (Some f) xs) begun ≡ Ok (after, es) → MakesValue r (called p after f es) → Gives {Y = Tables × Typed} (λ v. (after, view_value v)) r (check_of (plan_call p n f xs) s)
call_done r p n f xs s begun after es h g made =
    subst (λ (y : Result (Tables × Typed) Breach). Gives {Y = Tables × Typed} (λ v. (after, view_value v)) r y) (sym (ap (after_site p f (plan_all (Some f) xs)) h ∙ ap (after_arguments p f) g)) (with_tables after r (called p after f es) made)

-- what a call of this function gives, where there is one
abbrev CallGives : {X : Type 0} → (X → Tables × Typed) → Result X CheckError → Place → List Expression → Tables → Option (Name × ℕ) → Type 0
CallGives see r q xs s None = Unit {0}
CallGives see r q xs s (Some x) = Gives see r (check_of (plan_call q x.0 x.1 xs) s)

found_by : {X : Type 0} (see : X → Tables × Typed) (r : Result X CheckError) (q : Place) (n : Name) (m : CheckPlan Typed) (xs : List Expression) (s : Tables) (x : Name × ℕ) (f : Option ℕ) → beside_name n f ≡ Some x → Gives see r (check_of (plan_call q x.0 x.1 xs) s) → Gives see r (check_of (call_by q q n (count_of (views xs)) f m (plan_all f xs)) s)
found_by see r q n m xs s x None h g = absurd cc
found_by see r q n m xs s x (Some f) h g = rw (arguments_counted xs) (subst (CallGives see r q xs s) (sym h) g)

found : {X : Type 0} (see : X → Tables × Typed) (r : Result X CheckError) (q : Place) (n : Option Name) (m : CheckPlan Typed) (xs : List Expression) (s : Tables) (x : Name × ℕ) → function_named s n ≡ Some x → Gives see r (check_of (plan_call q x.0 x.1 xs) s) → Gives see r (check_of (call_of q q n (count_of (views xs)) m (λ f. plan_all f xs)) s)
found see r q None m xs s x h g = absurd cc
found see r q (Some n) m xs s x h g = found_by see r q n m xs s x (routine_in (found_name s n.number)) h g

missed_by : {X : Type 0} (see : X → Tables × Typed) (r : Result X CheckError) (q : Place) (n : Name) (m : CheckPlan Typed) (xs : List Expression) (s : Tables) (f : Option ℕ) → beside_name n f ≡ None → Gives see r (check_of (plan_no_call q (value_at q m) xs) s) → Gives see r (check_of (call_by q q n (count_of (views xs)) f m (plan_all f xs)) s)
missed_by see r q n m xs s None h g = g
missed_by see r q n m xs s (Some f) h g = absurd cc

missed : {X : Type 0} (see : X → Tables × Typed) (r : Result X CheckError) (q : Place) (n : Option Name) (m : CheckPlan Typed) (xs : List Expression) (s : Tables) → function_named s n ≡ None → Gives see r (check_of (plan_no_call q (value_at q m) xs) s) → Gives see r (check_of (call_of q q n (count_of (views xs)) m (λ f. plan_all f xs)) s)
missed see r q None m xs s h g = g
missed see r q (Some n) m xs s h g = missed_by see r q n m xs s (routine_in (found_name s n.number)) h g

call_gives : {X : Type 0} (see : X → Tables × Typed) (r : Result X CheckError) (e : Expression) (f : Box Expression Global) (p : Place) (list : Vec Expression Global) (xs : List Expression) (s : Tables) → e ≡ code.Call f p list → xs ≡ list.items → Gives see r (check_of (plan (tree.Call (view f.value) p (views xs))) s) → Gives see r (check_of (plan (view e)) s)
call_gives see r e f p list xs s is same g =
    subst (λ x. Gives see r (check_of (plan x) s)) (sym (ap view is ∙ view_call f p list ∙ ap (λ ys. tree.Call (view f.value) p (views ys)) (sym same))) g

-- a call of a function by its name
pub call_found : {X : Type 0} (see : X → Tables × Typed) (r : Result X CheckError) (e : Expression) (f : Box Expression Global) (p : Place) (list : Vec Expression Global) (xs : List Expression) (callee at : Expression) (q : Place) (x : Name × ℕ) (s : Tables) → e ≡ code.Call f p list → xs ≡ list.items → callee ≡ f.value → at ≡ f.value → q ≡ place_of (view at) → function_named s (name_in (view callee)) ≡ Some x → Gives see r (check_of (plan_call q x.0 x.1 xs) s) → Gives see r (check_of (plan (view e)) s)
call_found see r e f p list xs callee at q x s is same c a place h g =
    let name : function_named s (name_in (view f.value)) ≡ Some x = subst (λ (z : Expression). function_named s (name_in (view z)) ≡ Some x) c h in
    let by : Gives see r (check_of (plan_call (place_of (view f.value)) x.0 x.1 xs) s) = subst (λ (z : Place). Gives see r (check_of (plan_call z x.0 x.1 xs) s)) (place ∙ ap (λ (z : Expression). place_of (view z)) a) g in
    call_gives see r e f p list xs s is same (found see r (place_of (view f.value)) (name_in (view f.value)) (plan (view f.value)) xs s x name by)

-- a call of what is no function
pub call_missed : {X : Type 0} (see : X → Tables × Typed) (r : Result X CheckError) (e : Expression) (f : Box Expression Global) (p : Place) (list : Vec Expression Global) (xs : List Expression) (callee : Expression) (s : Tables) → e ≡ code.Call f p list → xs ≡ list.items → callee ≡ f.value → function_named s (name_in (view callee)) ≡ None → Gives see r (check_of (plan_no_call (place_of (view f.value)) (plan_value (view f.value)) xs) s) → Gives see r (check_of (plan (view e)) s)
call_missed see r e f p list xs callee s is same c h g =
    let name : function_named s (name_in (view f.value)) ≡ None = subst (λ (z : Expression). function_named s (name_in (view z)) ≡ None) c h in
    call_gives see r e f p list xs s is same (missed see r (place_of (view f.value)) (name_in (view f.value)) (plan (view f.value)) xs s name g)

-- a value that is called, and then its arguments
pub called_then : {X : Type 0} (see : X → Tables × Typed) (r : Result X CheckError) (callee operand at : Expression) (q : Place) (xs : List Expression) (s : Tables) (x : Tables × Typed) → operand ≡ callee → at ≡ callee → q ≡ place_of (view at) → check_of (plan_value (view operand)) s ≡ Ok x → Gives see r (check_of (plan_no_call q (pure x.1) xs) x.0) → Gives see r (check_of (plan_no_call (place_of (view callee)) (plan_value (view callee)) xs) s)
called_then see r callee operand at q xs s x o a place h g =
    let done : check_of (plan_value (view callee)) s ≡ Ok x = subst (λ (z : Expression). check_of (plan_value (view z)) s ≡ Ok x) o h in
    let by : Gives see r (check_of (plan_no_call (place_of (view callee)) (pure x.1) xs) x.0) = subst (λ (z : Place). Gives see r (check_of (plan_no_call z (pure x.1) xs) x.0)) (place ∙ ap (λ (z : Expression). place_of (view z)) a) g in
    rw done by

-- ---- type names in expressions

pub sizeof_type_gives : {X : Type 0} (see : X → Tables × Typed) (r : Result X CheckError) (e : Expression) (p q : Place) (t : Box TypeName Global) (name : TypeName) (s : Tables) → e ≡ code.SizeofType p q t → name ≡ t.value → Gives see r (check_of (sizeof_at p (plan_type_name name p)) s) → Gives see r (check_of (plan (view e)) s)
sizeof_type_gives see r e p q t name s is same g =
    let by : Gives see r (check_of (sizeof_at p (plan_type_name t.value p)) s) = subst (λ (k : TypeName). Gives see r (check_of (sizeof_at p (plan_type_name k p)) s)) same g in
    subst (λ x. Gives see r (check_of (plan x) s)) (sym (ap view is ∙ view_sizeof_type p q t)) by

pub sizeof_then : {X : Type 0} (see : X → Tables × Typed) (r : Result X CheckError) (p : Place) (m : CheckPlan ℕ) (s after : Tables) (t : ℕ) → check_of m s ≡ Ok (after, t) → Gives see r (check_of (sizeof_at p (pure t)) after) → Gives see r (check_of (sizeof_at p m) s)
sizeof_then see r p m s after t h g = rw h g

pub cast_gives : {X : Type 0} (see : X → Tables × Typed) (r : Result X CheckError) (e : Expression) (p : Place) (t : Box TypeName Global) (a : Box Expression Global) (name : TypeName) (x : Expression) (s : Tables) → e ≡ code.Cast p t a → name ≡ t.value → x ≡ a.value → Gives see r (check_of (cast_at p (both (plan_type_name name p) (plan_value (view x)))) s) → Gives see r (check_of (plan (view e)) s)
cast_gives see r e p t a name x s is same alike g =
    let by : Gives see r (check_of (cast_at p (both (plan_type_name t.value p) (plan_value (view x)))) s) = subst (λ (k : TypeName). Gives see r (check_of (cast_at p (both (plan_type_name k p) (plan_value (view x)))) s)) same g in
    subst (λ x. Gives see r (check_of (plan x) s)) (sym (ap view is ∙ view_cast p t a)) (subst (λ (k : Expression). Gives see r (check_of (cast_at p (both (plan_type_name t.value p) (plan_value (view k)))) s)) alike by)

-- the type, and then the rest of a cast
pub cast_then : {X : Type 0} (see : X → Tables × Typed) (r : Result X CheckError) (p : Place) (m : CheckPlan ℕ) (n : CheckPlan Typed) (s after : Tables) (t : ℕ) → check_of m s ≡ Ok (after, t) → Gives see r (check_of (cast_at p (both (pure t) n)) after) → Gives see r (check_of (cast_at p (both m n)) s)
cast_then see r p m n s after t h g = rw h g

-- ---- specifiers and declarators

pub structure_body_gives : {X : Type 0} (see : X → Tables × Option ℕ) (r : Result X CheckError) (c : Context) (alone : Bool) (b : Option ℕ) (w : Specifier) (p : Place) (n : Option Name) (q : Place) (list : Vec Member Global) (xs : List Member) (s : Tables) → w ≡ specifier.StructureBody p n q list → xs ≡ list.items → Gives see r (check_of (plan_specifier c alone b (tree.StructureBody p n q (views_members xs))) s) → Gives see r (check_of (plan_specifier c alone b (view_specifier w)) s)
structure_body_gives see r c alone b w p n q list xs s is same g =
    subst (λ x. Gives see r (check_of (plan_specifier c alone b x) s)) (sym (ap view_specifier is ∙ view_structure_body p n q list ∙ ap (λ ys. tree.StructureBody p n q (views_members ys)) (sym same))) g

pub enumeration_body_gives : {X : Type 0} (see : X → Tables × Option ℕ) (r : Result X CheckError) (c : Context) (alone : Bool) (b : Option ℕ) (w : Specifier) (p : Place) (n : Option Name) (q : Place) (list : Vec Enumerator Global) (comma : TrailingComma) (xs : List Enumerator) (s : Tables) → w ≡ specifier.EnumerationBody p n q list comma → xs ≡ list.items → Gives see r (check_of (plan_specifier c alone b (tree.EnumerationBody p n q (views_enumerators xs) (has_comma comma))) s) → Gives see r (check_of (plan_specifier c alone b (view_specifier w)) s)
enumeration_body_gives see r c alone b w p n q list comma xs s is same g =
    subst (λ x. Gives see r (check_of (plan_specifier c alone b x) s)) (sym (ap view_specifier is ∙ view_enumeration_body p n q list comma ∙ ap (λ ys. tree.EnumerationBody p n q (views_enumerators ys) (has_comma comma)) (sym same))) g

pub function_gives : {X : Type 0} (see : X → Tables × NamedType) (r : Result X CheckError) (at : Place) (free : Bool) (b : ℕ) (d : Declarator) (inner : Box Declarator Global) (p : Place) (list : Vec Parameter Global) (xs : List Parameter) (s : Tables) → d ≡ declarator.Function inner p list → xs ≡ list.items → Gives see r (check_of (plan_declarator at free b (tree.Function (view_declarator inner.value) p (views_parameters xs))) s) → Gives see r (check_of (plan_declarator at free b (view_declarator d)) s)
function_gives see r at free b d inner p list xs s is same g =
    subst (λ x. Gives see r (check_of (plan_declarator at free b x) s)) (sym (ap view_declarator is ∙ view_function inner p list ∙ ap (λ ys. tree.Function (view_declarator inner.value) p (views_parameters ys)) (sym same))) g

-- a function's parameters, and then the rest of a declarator
pub function_then : {X : Type 0} (see : X → Tables × NamedType) (r : Result X CheckError) (at : Place) (free : Bool) (b : ℕ) (q : Place) (xs : List Parameter) (inner other : Declarator) (s after : Tables) (t : ℕ) → check_of (function at b (scoped (plan_parameters q no_parameters_id (views_parameters xs)))) s ≡ Ok (after, t) → other ≡ inner → Gives see r (check_of (plan_declarator at free t (view_declarator other)) after) → Gives see r (check_of (plan_declarator at free b (tree.Function (view_declarator inner) q (views_parameters xs))) s)
function_then see r at free b q xs inner other s after t h same g = rw h (subst (λ (k : Declarator). Gives see r (check_of (plan_declarator at free t (view_declarator k)) after)) same g)
