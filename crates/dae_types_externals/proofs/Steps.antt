-- Steps on a part that is gone through first.
use Rattle.std.proofs.Common.{◌≡◌, ℕ, List, [], ◌∷◌, Option, Some, None, Bool, true, false, Result, Ok, Err, ◌⊎◌, inl, inr, refl, ap, subst, sym, ◌∙◌}
use Rattle.dae_base.specs.declared.Place.{Place}
use Rattle.dae_tree.specs.declared.expressions.Name.{Name}
use Rattle.std.specs.Prelude.{Box, Vec}
use Rattle.std.specs.declared.alloc.Global.{Global}
use Rattle.dae_tree.specs.declared.words.Keyword.{Keyword}
use Rattle.dae_tree.specs.declared.expressions.Declarator.{Declarator}
use Rattle.dae_tree.specs.declared.expressions.Specifier.{Specifier}
use Rattle.dae_tree.specs.declared.statements.Block.{Block}
use Rattle.dae_tree.specs.declared.statements.External.{External}
use Rattle.dae_tree.specs.declared.statements.External.TheVariants as external
use Rattle.dae_tree.specs.Trees as tree
use Rattle.dae_tree.specs.FileViews.{view_declarations, view_external, views_statements}
use Rattle.dae_tree.specs.Views.{view_declarator, views_specifiers}
use Rattle.dae_types_kinds.specs.declared.rules.Rule.{Rule}
use Rattle.dae_types_kinds.specs.declared.rules.Breach.{Breach}
use Rattle.dae_types_kinds.specs.declared.rules.CheckError.{CheckError}
use Rattle.dae_types_kinds.specs.declared.rules.CheckError.TheVariants as errors
use Rattle.dae_types_kinds.specs.declared.tables.NamedType.{NamedType}
use Rattle.dae_types_kinds.specs.Tables.{Tables}
use Rattle.dae_types_rules.specs.Sites.{Site, place}
use Rattle.dae_types_rules.specs.Table.{asked, breaks}
use Rattle.dae_types_rules.specs.Plan.{CheckPlan, pure, Gives, Fails, ask_all, ask_in, check_of, ◌>>=◌}
use Rattle.dae_types_plans.specs.Steps.{settles_name}
use Rattle.dae_types_file_plans.specs.Files.{Product, definition_at, end_sites, plan_defined, plan_external, plan_externals, plan_file, some_of}
use Rattle.dae_types_externals.specs.Parts.{plan_definition, plan_end}

-- ---- a name that is noted

settled : {A : Type 0} (n : Option Name) (m : CheckPlan A) (s : Tables) → check_of (settles_name n m) s ≡ check_of m s
settled None m s = refl
settled (Some n) m s = refl

pub settled_gives : {A X : Type 0} (see : X → Tables × A) (r : Result X CheckError) (n : Option Name) (m : CheckPlan A) (s : Tables) → Gives see r (check_of m s) → Gives see r (check_of (settles_name n m) s)
settled_gives see r n m s h = subst (λ y. Gives see r y) (sym (settled n m s)) h

pub settled_fails : {A : Type 0} (e : CheckError) (n : Option Name) (m : CheckPlan A) (s : Tables) → Fails e (check_of m s) → Fails e (check_of (settles_name n m) s)
settled_fails e n m s h = subst (λ y. Fails e y) (sym (settled n m s)) h

-- ---- the name of a type

-- ---- definitions

-- a number that is given is one that there is
some_given : (new : Tables) (r : Result ℕ CheckError) (y : Result (Tables × ℕ) Breach) → Gives {Y = Tables × ℕ} (λ t. (new, t)) r y → Gives {Y = Tables × Option ℕ} (λ t. (new, Some t)) r (y >>= λ x. Ok (x.0, Some x.1))
some_given new (Ok t) y h = rw h refl
some_given new (Err errors.Memory) y h = h
some_given new (Err errors.Unsound) y h = h
some_given new (Err (errors.Rule f)) y h = rw h refl

pub definition_gives : (new : Tables) (r : Result ℕ CheckError) (n : Option Name) (p : Place) (b d : Bool) (m : CheckPlan NamedType) (s : Tables) (x : Tables × NamedType) → check_of m s ≡ Ok x → Gives {Y = Tables × ℕ} (λ t. (new, t)) r (check_of (definition_at p b d (pure x.1)) x.0) → Gives {Y = Tables × Option ℕ} (λ t. (new, Some t)) r (check_of (settles_name n (some_of (definition_at p b d m))) s)
definition_gives new r n p b d m s x h k =
    let one : Gives {Y = Tables × ℕ} (λ t. (new, t)) r (check_of (definition_at p b d m) s) = rw h k in
    settled_gives (λ t. (new, Some t)) r n (some_of (definition_at p b d m)) s (some_given new r (check_of (definition_at p b d m) s) one)

pub definition_fails : (e : CheckError) (n : Option Name) (p : Place) (b d : Bool) (m : CheckPlan NamedType) (s : Tables) → Fails e (check_of m s) → Fails e (check_of (settles_name n (some_of (definition_at p b d m))) s)
definition_fails errors.Memory n p b d m s h = h
definition_fails errors.Unsound n p b d m s h = h
definition_fails (errors.Rule f) None p b d m s h = rw h refl
definition_fails (errors.Rule f) (Some n) p b d m s h = rw h refl

-- ---- the end of a file

-- what is asked doesn't hang on what follows
abbrev Alike : {A B : Type 0} → Result A Breach → Result B Breach → Result A Breach → Result B Breach → Type 0
Alike a b x y = ((x ≡ a) × (y ≡ b)) ⊎ ((f : Breach) × (x ≡ Err f) × (y ≡ Err f))

one_alike : {A B : Type 0} (a : Result A Breach) (b : Result B Breach) (is : Bool) (f : Breach) (x : Result A Breach) (y : Result B Breach) → Alike a b x y → Alike a b (elim is [ true ↦ Err f | false ↦ x ]) (elim is [ true ↦ Err f | false ↦ y ])
one_alike a b true f x y h = inr (f, refl, refl)
one_alike a b false f x y h = h

rules_alike : {A B : Type 0} (a : Result A Breach) (b : Result B Breach) (rs : List Rule) (s : Site) (x : Result A Breach) (y : Result B Breach) → Alike a b x y → Alike a b (ask_in rs s x) (ask_in rs s y)
rules_alike a b [] s x y h = h
rules_alike a b (r ∷ rs) s x y h = one_alike a b (breaks r s) (record { rule = r; place = place s }) (ask_in rs s x) (ask_in rs s y) (rules_alike a b rs s x y h)

all_alike : {A B : Type 0} (a : Result A Breach) (b : Result B Breach) (ss : List Site) → Alike a b (ask_all ss a) (ask_all ss b)
unfolding ask_all
all_alike a b [] = inl (refl, refl)
all_alike a b (s ∷ ss) = rules_alike a b (asked s) s (ask_all ss a) (ask_all ss b) (all_alike a b ss)

passed : {A B : Type 0} (a : A) (b : B) (x : Result A Breach) (y : Result B Breach) → Alike (Ok a) (Ok b) x y → (z : A) → x ≡ Ok z → y ≡ Ok b
passed a b x y (inl h) z k = h.1
passed a b x y (inr h) z k = let e : Err h.0 ≡ Ok z = sym h.1 ∙ k in absurd cc

abbrev broken_by : {A : Type 0} → Breach → Result A Breach → Breach
broken_by d (Ok x) = d
broken_by d (Err f) = f

broke : {A B : Type 0} (a : A) (b : B) (x : Result A Breach) (y : Result B Breach) → Alike (Ok a) (Ok b) x y → (e : CheckError) → Fails e x → Fails e y
broke a b x y h errors.Memory k = k
broke a b x y h errors.Unsound k = k
broke a b x y (inl h) (errors.Rule f) k = let e : Err f ≡ Ok a = sym k ∙ h.0 in absurd cc
broke a b x y (inr h) (errors.Rule f) k = h.2 ∙ ap Err (ap (broken_by f) (sym h.1 ∙ k))

abbrev ended : Tables → List Product → Result (Tables × List Product) Breach
ended t ps = ask_all (end_sites t t.objects) (Ok (t, ps))

end_alike : (t : Tables) (ps : List Product) → Alike (Ok (t, tt {0})) (Ok (t, ps)) (check_of plan_end t) (ended t ps)
end_alike t ps = all_alike (Ok (t, tt {0})) (Ok (t, ps)) (end_sites t t.objects)

behind_externals : (xs : List tree.External) (s t : Tables) (ps : List Product) → check_of (plan_externals [] xs) s ≡ Ok (t, ps) → check_of (plan_file xs) s ≡ ended t ps
behind_externals xs s t ps h = rw h refl

pub file_ends : (xs : List tree.External) (s t : Tables) (ps : List Product) (z : Tables × Unit {0}) → check_of (plan_externals [] xs) s ≡ Ok (t, ps) → check_of plan_end t ≡ Ok z → check_of (plan_file xs) s ≡ Ok (t, ps)
file_ends xs s t ps z h k = behind_externals xs s t ps h ∙ passed (t, tt {0}) (t, ps) (check_of plan_end t) (ended t ps) (end_alike t ps) z k

pub file_follows : (e : CheckError) (xs : List tree.External) (s t : Tables) (ps : List Product) → check_of (plan_externals [] xs) s ≡ Ok (t, ps) → Fails e (check_of plan_end t) → Fails e (check_of (plan_file xs) s)
file_follows e xs s t ps h k = subst (λ y. Fails e y) (sym (behind_externals xs s t ps h)) (broke (t, tt {0}) (t, ps) (check_of plan_end t) (ended t ps) (end_alike t ps) e k)

pub file_stops : (e : CheckError) (xs : List tree.External) (s : Tables) → Fails e (check_of (plan_externals [] xs) s) → Fails e (check_of (plan_file xs) s)
file_stops errors.Memory xs s h = h
file_stops errors.Unsound xs s h = h
file_stops (errors.Rule f) xs s h = rw h refl

-- ---- definitions in memory

pub definition_of : {X : Type 0} (see : X → Tables × List Product) (r : Result X CheckError) (p : Place) (k : Option Keyword) (n name : Option Name) (ps parameters : tree.Parameters) (b : Block) (t : ℕ) (s : Tables) → parameters ≡ ps → name ≡ n → Gives see r (check_of (plan_definition p k name parameters b t) s) → Gives see r (check_of (plan_definition p k n ps b t) s)
definition_of see r p k n name ps parameters b t s same called h =
    subst (λ x. Gives see r (check_of (plan_definition p k n x b t) s)) same (subst (λ x. Gives see r (check_of (plan_definition p k x parameters b t) s)) called h)

pub external_of : {X : Type 0} (see : X → Tables × List Product) (r : Result X CheckError) (done : List Product) (e : External) (ws : Vec Specifier Global) (d : Box Declarator Global) (b : Block) (xs : List Specifier) (x : Declarator) (s : Tables) → e ≡ external.Definition ws d b → xs ≡ ws.items → x ≡ d.value
    → Gives see r (check_of (plan_defined done (views_specifiers xs) (view_declarator x) b.place (view_declarations b.declarations.items) (views_statements b.statements.items)) s) → Gives see r (check_of (plan_external done (view_external e)) s)
external_of see r done e ws d b xs x s is same inside h =
    let by : Gives see r (check_of (plan_defined done (views_specifiers xs) (view_declarator d.value) b.place (view_declarations b.declarations.items) (views_statements b.statements.items)) s) = subst (λ (k : Declarator). Gives see r (check_of (plan_defined done (views_specifiers xs) (view_declarator k) b.place (view_declarations b.declarations.items) (views_statements b.statements.items)) s)) inside h in
    subst (λ y. Gives see r (check_of (plan_external done (view_external y)) s)) (sym is) (subst (λ ys. Gives see r (check_of (plan_defined done (views_specifiers ys) (view_declarator d.value) b.place (view_declarations b.declarations.items) (views_statements b.statements.items)) s)) same by)
