-- A list in memory that shows trees, as the list of a node.
use Rattle.std.proofs.Common.{◌≡◌, ℕ, List, [], ◌∷◌, ◌++◌, map, Option, Some, None, refl, sym, ap, subst, ◌∙◌}
use Rattle.std.specs.Prelude.{Vec, Result, Ok, Err, IfOk}
use Rattle.std.specs.declared.alloc.Global.{Global}
use Rattle.dae_base.specs.declared.Place.{Place}
use Rattle.dae_tree.specs.declared.expressions.Name.{Name}
use Rattle.dae_tree.specs.declared.expressions.Expression.{Expression}
use Rattle.dae_tree.specs.declared.expressions.Member.{Member}
use Rattle.dae_tree.specs.declared.expressions.Enumerator.{Enumerator}
use Rattle.dae_tree.specs.declared.expressions.Enumerator.TheVariants as enumerator
use Rattle.dae_tree.specs.declared.expressions.Declarator.{Declarator}
use Rattle.dae_tree.specs.declared.expressions.Parameter.{Parameter}
use Rattle.dae_tree.specs.declared.statements.Initialiser.{Initialiser}
use Rattle.dae_tree.specs.declared.statements.InitDeclarator.{InitDeclarator}
use Rattle.dae_tree.specs.declared.statements.Declaration.{Declaration}
use Rattle.dae_tree.specs.declared.statements.Statement.{Statement}
use Rattle.dae_tree.specs.Trees as tree
use Rattle.dae_tree.specs.Views.{view, views, views_members, views_enumerators, view_declarator, views_declarators, views_parameters, views_specifiers}
use Rattle.dae_tree.specs.FileViews.{view_initialiser, views_initialisers, view_statement, views_statements, view_item, view_items, view_declaration, view_declarations}
use Rattle.dae_parse_grammar.specs.FirstPlaces.{Places, or_else, both, firsts, firsts_all, firsts_members, firsts_enumerators, firsts_declarator, firsts_declarators, firsts_parameters, firsts_specifiers, firsts_initialiser, firsts_initialisers, firsts_statement, firsts_statements, firsts_value, firsts_items, firsts_declaration, firsts_declarations}
use Rattle.dae_tree.specs.Lists as lists
use Rattle.dae_parse_grammar.specs.Machine.{onto, arguments_onto, members_onto, enumerator_before, enumerators_onto, declarators_onto, parameters_onto, initialisers_onto, statements_onto}
use Rattle.dae_parse_parts.specs.declared.reading.Read.{Read}
use Rattle.dae_parse_parts.specs.Shown.{Holds, IsSeen, Shows, ShowsList, firsts_list, IsLonger}
use Rattle.dae_parse_nodes.specs.Parts.{ShowsArguments, ShowsMembers, view_line, firsts_line, ShowsEnumerators, view_entry, firsts_entry, ShowsDeclarators, ShowsParameterList, view_parameter, firsts_parameter, ShowsInitialisers, ShowsItems, firsts_item, ShowsDeclarations, ShowsStatements}
use Rattle.dae_parse_grammar.proofs.Laws.{onto_last, or_else_along}
use Rattle.dae_parse_parts.proofs.Laws.{holds_same, or_else_none}
use Rattle.dae_parse_parts.proofs.Laws.{seen_at}

map_last : {T A : Type 0} (view : T → A) (xs : List T) (t : T) → map view (xs ++ t ∷ []) ≡ map view xs ++ view t ∷ []
map_last view [] t = refl
map_last view (x ∷ xs) t = ap (λ ys. view x ∷ ys) (map_last view xs t)

firsts_last : {A : Type 0} (firsts : A → Places) (xs : List A) (a : A) (i : ℕ) → both (firsts_list firsts xs) (firsts a) i ≡ firsts_list firsts (xs ++ a ∷ []) i
firsts_last firsts [] a i = or_else_none (firsts a i)
firsts_last firsts (x ∷ xs) a i = sym (or_else_along (firsts x i) (firsts_list firsts xs i) (firsts a i)) ∙ ap (or_else (firsts x i)) (firsts_last firsts xs a i)

-- a list with a tree more
seen_longer : {T A : Type 0} (view : T → A) (before : Option (Vec T Global)) (item : Option T) (o : Option (Vec T Global)) (trees : List A) (a : A)
    → IsSeen (λ list. map view list.items) before trees → IsSeen view item a → IsLonger before item o → IsSeen (λ list. map view list.items) o (trees ++ a ∷ [])
seen_longer view before item None trees a h k p = tt
seen_longer view before item (Some list) trees a h k p =
    let e : map view p.0.items ≡ trees = seen_at (λ list. map view list.items) before trees p.0 h p.2 in
    let d : view p.1 ≡ a = seen_at view item a p.1 k p.3 in
    ap (map view) p.4 ∙ map_last view p.0.items p.1 ∙ ap (λ ys. ys ++ view p.1 ∷ []) e ∙ ap (λ y. trees ++ y ∷ []) d

pub shows_longer : {T A E : Type 0} (view : T → A) (firsts : A → Places) (before : Read (Vec T Global)) (item : Read T) (trees : List A) (a : A) (result : Result (Read (Vec T Global)) E)
    → ShowsList view firsts before trees → Shows view firsts item a
    → ((f g : Places) → Holds before f → Holds item g → IfOk result (λ r. Holds r (both f g) × IsLonger before.tree item.tree r.tree))
    → IfOk result (λ r. ShowsList view firsts r (a ∷ trees))
shows_longer view firsts before item trees a (Err e) h k made = tt
shows_longer view firsts before item trees a (Ok r) h k made =
    let m = made (firsts_list firsts (onto trees [])) (firsts a) h.holds k.holds in
    subst (λ list. Shows (λ (v : Vec _ Global). map view v.items) (firsts_list firsts) r list) (sym (onto_last trees a)) (record {
      holds = holds_same r _ _ (firsts_last firsts (onto trees []) a) m.0;
      seen = seen_longer view before.tree item.tree r.tree (onto trees []) a h.seen k.seen m.1;
    })

-- ---- the lists of each kind

abbrev rows_arguments : List tree.Expression → tree.Expressions
rows_arguments [] = tree.no_expressions
rows_arguments (a ∷ list) = tree.expression_then a (rows_arguments list)

seen_arguments : (xs : List Expression) → views xs ≡ rows_arguments (map view xs)
seen_arguments [] = refl
seen_arguments (x ∷ xs) = ap (tree.expression_then (view x)) (seen_arguments xs)

onto_arguments : (before list : List tree.Expression) → arguments_onto before (rows_arguments list) ≡ rows_arguments (onto before list)
onto_arguments [] list = refl
onto_arguments (a ∷ before) list = onto_arguments before (a ∷ list)

first_arguments : (list : List tree.Expression) (i : ℕ) → firsts_list firsts list i ≡ firsts_all (rows_arguments list) i
first_arguments [] i = refl
first_arguments (a ∷ list) i = ap (or_else (firsts a i)) (first_arguments list i)

see_arguments : (o : Option (Vec Expression Global)) (list : List tree.Expression) → IsSeen (λ list. map view list.items) o list → IsSeen (λ list. views list.items) o (rows_arguments list)
see_arguments None list h = tt
see_arguments (Some v) list h = seen_arguments v.items ∙ ap rows_arguments h

pub shows_arguments : (read : Read (Vec Expression Global)) (before : List tree.Expression) → ShowsArguments read before → Shows (λ list. views list.items) firsts_all read (arguments_onto before tree.no_expressions)
shows_arguments read before h = subst (λ rows. Shows (λ (list : Vec Expression Global). views list.items) firsts_all read rows) (sym (onto_arguments before [])) (record {
  holds = holds_same read _ _ (first_arguments (onto before [])) h.holds;
  seen = see_arguments read.tree (onto before []) h.seen;
})

abbrev rows_members : List lists.MemberLine → tree.Members
rows_members [] = tree.no_members
rows_members (a ∷ list) = tree.member_then a.specifiers a.declarators a.end (rows_members list)

seen_members : (xs : List Member) → views_members xs ≡ rows_members (map view_line xs)
seen_members [] = refl
seen_members (m ∷ xs) = ap (tree.member_then (views_specifiers m.specifiers.items) (views_declarators m.declarators.items) m.end) (seen_members xs)

onto_members : (before list : List lists.MemberLine) → members_onto before (rows_members list) ≡ rows_members (onto before list)
onto_members [] list = refl
onto_members (a ∷ before) list = onto_members before (a ∷ list)

first_members : (list : List lists.MemberLine) (i : ℕ) → firsts_list firsts_line list i ≡ firsts_members (rows_members list) i
first_members [] i = refl
first_members (a ∷ list) i =
    sym (or_else_along (firsts_specifiers a.specifiers i) (firsts_declarators a.declarators i) (firsts_list firsts_line list i)) ∙ ap (λ x. or_else (firsts_specifiers a.specifiers i) (or_else (firsts_declarators a.declarators i) x)) (first_members list i)

see_members : (o : Option (Vec Member Global)) (list : List lists.MemberLine) → IsSeen (λ list. map view_line list.items) o list → IsSeen (λ list. views_members list.items) o (rows_members list)
see_members None list h = tt
see_members (Some v) list h = seen_members v.items ∙ ap rows_members h

pub shows_members : (read : Read (Vec Member Global)) (before : List lists.MemberLine) → ShowsMembers read before → Shows (λ list. views_members list.items) firsts_members read (members_onto before tree.no_members)
shows_members read before h = subst (λ rows. Shows (λ (list : Vec Member Global). views_members list.items) firsts_members read rows) (sym (onto_members before [])) (record {
  holds = holds_same read _ _ (first_members (onto before [])) h.holds;
  seen = see_members read.tree (onto before []) h.seen;
})

abbrev rows_enumerators : List lists.EnumEntry → tree.Enumerators
rows_enumerators [] = tree.no_enumerators
rows_enumerators (a ∷ list) = enumerator_before a (rows_enumerators list)

seen_enumerators : (xs : List Enumerator) → views_enumerators xs ≡ rows_enumerators (map view_entry xs)
seen_enumerators [] = refl
seen_enumerators (enumerator.Plain n ∷ xs) = ap (tree.plain_then n) (seen_enumerators xs)
seen_enumerators (enumerator.Valued n p e ∷ xs) = ap (tree.valued_then n p (view e)) (seen_enumerators xs)

onto_enumerators : (before list : List lists.EnumEntry) → enumerators_onto before (rows_enumerators list) ≡ rows_enumerators (onto before list)
onto_enumerators [] list = refl
onto_enumerators (a ∷ before) list = onto_enumerators before (a ∷ list)

value_first : (n : Name) (v : Option (Place × tree.Expression)) (es : tree.Enumerators) (i : ℕ) (x : Option Place) → x ≡ firsts_enumerators es i
    → or_else (firsts_entry (record { name = n; value = v }) i) x ≡ firsts_enumerators (enumerator_before (record { name = n; value = v }) es) i
value_first n None es i x h = h
value_first n (Some v) es i x h = ap (or_else (firsts v.1 i)) h

entry_first : (e : lists.EnumEntry) (es : tree.Enumerators) (i : ℕ) (x : Option Place) → x ≡ firsts_enumerators es i → or_else (firsts_entry e i) x ≡ firsts_enumerators (enumerator_before e es) i
entry_first e es i x h = value_first e.name e.value es i x h

first_enumerators : (list : List lists.EnumEntry) (i : ℕ) → firsts_list firsts_entry list i ≡ firsts_enumerators (rows_enumerators list) i
first_enumerators [] i = refl
first_enumerators (a ∷ list) i = entry_first a (rows_enumerators list) i (firsts_list firsts_entry list i) (first_enumerators list i)

see_enumerators : (o : Option (Vec Enumerator Global)) (list : List lists.EnumEntry) → IsSeen (λ list. map view_entry list.items) o list → IsSeen (λ list. views_enumerators list.items) o (rows_enumerators list)
see_enumerators None list h = tt
see_enumerators (Some v) list h = seen_enumerators v.items ∙ ap rows_enumerators h

pub shows_enumerators : (read : Read (Vec Enumerator Global)) (before : List lists.EnumEntry) → ShowsEnumerators read before → Shows (λ list. views_enumerators list.items) firsts_enumerators read (enumerators_onto before tree.no_enumerators)
shows_enumerators read before h = subst (λ rows. Shows (λ (list : Vec Enumerator Global). views_enumerators list.items) firsts_enumerators read rows) (sym (onto_enumerators before [])) (record {
  holds = holds_same read _ _ (first_enumerators (onto before [])) h.holds;
  seen = see_enumerators read.tree (onto before []) h.seen;
})

abbrev rows_declarators : List tree.Declarator → tree.Declarators
rows_declarators [] = tree.no_declarators
rows_declarators (a ∷ list) = tree.declarator_then a (rows_declarators list)

seen_declarators : (xs : List Declarator) → views_declarators xs ≡ rows_declarators (map view_declarator xs)
seen_declarators [] = refl
seen_declarators (x ∷ xs) = ap (tree.declarator_then (view_declarator x)) (seen_declarators xs)

onto_declarators : (before list : List tree.Declarator) → declarators_onto before (rows_declarators list) ≡ rows_declarators (onto before list)
onto_declarators [] list = refl
onto_declarators (a ∷ before) list = onto_declarators before (a ∷ list)

first_declarators : (list : List tree.Declarator) (i : ℕ) → firsts_list firsts_declarator list i ≡ firsts_declarators (rows_declarators list) i
first_declarators [] i = refl
first_declarators (a ∷ list) i = ap (or_else (firsts_declarator a i)) (first_declarators list i)

see_declarators : (o : Option (Vec Declarator Global)) (list : List tree.Declarator) → IsSeen (λ list. map view_declarator list.items) o list → IsSeen (λ list. views_declarators list.items) o (rows_declarators list)
see_declarators None list h = tt
see_declarators (Some v) list h = seen_declarators v.items ∙ ap rows_declarators h

pub shows_declarators : (read : Read (Vec Declarator Global)) (before : List tree.Declarator) → ShowsDeclarators read before → Shows (λ list. views_declarators list.items) firsts_declarators read (declarators_onto before tree.no_declarators)
shows_declarators read before h = subst (λ rows. Shows (λ (list : Vec Declarator Global). views_declarators list.items) firsts_declarators read rows) (sym (onto_declarators before [])) (record {
  holds = holds_same read _ _ (first_declarators (onto before [])) h.holds;
  seen = see_declarators read.tree (onto before []) h.seen;
})

abbrev rows_parameters : List lists.Parameter → tree.Parameters
rows_parameters [] = tree.no_parameters
rows_parameters (a ∷ list) = tree.parameter_then a.specifiers a.declarator (rows_parameters list)

seen_parameters : (xs : List Parameter) → views_parameters xs ≡ rows_parameters (map view_parameter xs)
seen_parameters [] = refl
seen_parameters (p ∷ xs) = ap (tree.parameter_then (views_specifiers p.specifiers.items) (view_declarator p.declarator)) (seen_parameters xs)

onto_parameters : (before list : List lists.Parameter) → parameters_onto before (rows_parameters list) ≡ rows_parameters (onto before list)
onto_parameters [] list = refl
onto_parameters (a ∷ before) list = onto_parameters before (a ∷ list)

first_parameters : (list : List lists.Parameter) (i : ℕ) → firsts_list firsts_parameter list i ≡ firsts_parameters (rows_parameters list) i
first_parameters [] i = refl
first_parameters (a ∷ list) i =
    sym (or_else_along (firsts_specifiers a.specifiers i) (firsts_declarator a.declarator i) (firsts_list firsts_parameter list i)) ∙ ap (λ x. or_else (firsts_specifiers a.specifiers i) (or_else (firsts_declarator a.declarator i) x)) (first_parameters list i)

see_parameters : (o : Option (Vec Parameter Global)) (list : List lists.Parameter) → IsSeen (λ list. map view_parameter list.items) o list → IsSeen (λ list. views_parameters list.items) o (rows_parameters list)
see_parameters None list h = tt
see_parameters (Some v) list h = seen_parameters v.items ∙ ap rows_parameters h

pub shows_parameters : (read : Read (Vec Parameter Global)) (before : List lists.Parameter) → ShowsParameterList read before → Shows (λ list. views_parameters list.items) firsts_parameters read (parameters_onto before tree.no_parameters)
shows_parameters read before h = subst (λ rows. Shows (λ (list : Vec Parameter Global). views_parameters list.items) firsts_parameters read rows) (sym (onto_parameters before [])) (record {
  holds = holds_same read _ _ (first_parameters (onto before [])) h.holds;
  seen = see_parameters read.tree (onto before []) h.seen;
})

abbrev rows_initialisers : List tree.Initialiser → tree.Initialisers
rows_initialisers [] = tree.no_initialisers
rows_initialisers (a ∷ list) = tree.initialiser_then a (rows_initialisers list)

seen_initialisers : (xs : List Initialiser) → views_initialisers xs ≡ rows_initialisers (map view_initialiser xs)
seen_initialisers [] = refl
seen_initialisers (x ∷ xs) = ap (tree.initialiser_then (view_initialiser x)) (seen_initialisers xs)

onto_initialisers : (before list : List tree.Initialiser) → initialisers_onto before (rows_initialisers list) ≡ rows_initialisers (onto before list)
onto_initialisers [] list = refl
onto_initialisers (a ∷ before) list = onto_initialisers before (a ∷ list)

first_initialisers : (list : List tree.Initialiser) (i : ℕ) → firsts_list firsts_initialiser list i ≡ firsts_initialisers (rows_initialisers list) i
first_initialisers [] i = refl
first_initialisers (a ∷ list) i = ap (or_else (firsts_initialiser a i)) (first_initialisers list i)

see_initialisers : (o : Option (Vec Initialiser Global)) (list : List tree.Initialiser) → IsSeen (λ list. map view_initialiser list.items) o list → IsSeen (λ list. views_initialisers list.items) o (rows_initialisers list)
see_initialisers None list h = tt
see_initialisers (Some v) list h = seen_initialisers v.items ∙ ap rows_initialisers h

pub shows_initialisers : (read : Read (Vec Initialiser Global)) (before : List tree.Initialiser) → ShowsInitialisers read before → Shows (λ list. views_initialisers list.items) firsts_initialisers read (initialisers_onto before tree.no_initialisers)
shows_initialisers read before h = subst (λ rows. Shows (λ (list : Vec Initialiser Global). views_initialisers list.items) firsts_initialisers read rows) (sym (onto_initialisers before [])) (record {
  holds = holds_same read _ _ (first_initialisers (onto before [])) h.holds;
  seen = see_initialisers read.tree (onto before []) h.seen;
})

abbrev rows_statements : List tree.Statement → tree.Statements
rows_statements [] = tree.no_statements
rows_statements (a ∷ list) = tree.statement_then a (rows_statements list)

seen_statements : (xs : List Statement) → views_statements xs ≡ rows_statements (map view_statement xs)
seen_statements [] = refl
seen_statements (x ∷ xs) = ap (tree.statement_then (view_statement x)) (seen_statements xs)

onto_statements : (before list : List tree.Statement) → statements_onto before (rows_statements list) ≡ rows_statements (onto before list)
onto_statements [] list = refl
onto_statements (a ∷ before) list = onto_statements before (a ∷ list)

first_statements : (list : List tree.Statement) (i : ℕ) → firsts_list firsts_statement list i ≡ firsts_statements (rows_statements list) i
first_statements [] i = refl
first_statements (a ∷ list) i = ap (or_else (firsts_statement a i)) (first_statements list i)

see_statements : (o : Option (Vec Statement Global)) (list : List tree.Statement) → IsSeen (λ list. map view_statement list.items) o list → IsSeen (λ list. views_statements list.items) o (rows_statements list)
see_statements None list h = tt
see_statements (Some v) list h = seen_statements v.items ∙ ap rows_statements h

pub shows_statements : (read : Read (Vec Statement Global)) (before : List tree.Statement) → ShowsStatements read before → Shows (λ list. views_statements list.items) firsts_statements read (statements_onto before tree.no_statements)
shows_statements read before h = subst (λ rows. Shows (λ (list : Vec Statement Global). views_statements list.items) firsts_statements read rows) (sym (onto_statements before [])) (record {
  holds = holds_same read _ _ (first_statements (onto before [])) h.holds;
  seen = see_statements read.tree (onto before []) h.seen;
})

seen_items : (xs : List InitDeclarator) → view_items xs ≡ map view_item xs
seen_items [] = refl
seen_items (x ∷ xs) = ap (λ ys. view_item x ∷ ys) (seen_items xs)

first_items : (list : List tree.InitDeclarator) (i : ℕ) → firsts_list firsts_item list i ≡ firsts_items list i
first_items [] i = refl
first_items (a ∷ list) i =
    sym (or_else_along (firsts_declarator a.declarator i) (firsts_value a.initialiser i) (firsts_list firsts_item list i))
    ∙ ap (λ x. or_else (firsts_declarator a.declarator i) (or_else (firsts_value a.initialiser i) x)) (first_items list i)

see_items : (o : Option (Vec InitDeclarator Global)) (list : List tree.InitDeclarator) → IsSeen (λ list. map view_item list.items) o list → IsSeen (λ list. view_items list.items) o list
see_items None list h = tt
see_items (Some v) list h = seen_items v.items ∙ h

pub shows_items : (read : Read (Vec InitDeclarator Global)) (before : List tree.InitDeclarator) → ShowsItems read before → Shows (λ list. view_items list.items) firsts_items read (onto before [])
shows_items read before h = record {
  holds = holds_same read _ _ (first_items (onto before [])) h.holds;
  seen = see_items read.tree (onto before []) h.seen;
}

seen_declarations : (xs : List Declaration) → view_declarations xs ≡ map view_declaration xs
seen_declarations [] = refl
seen_declarations (x ∷ xs) = ap (λ ys. view_declaration x ∷ ys) (seen_declarations xs)

first_declarations : (list : List tree.Declaration) (i : ℕ) → firsts_list firsts_declaration list i ≡ firsts_declarations list i
first_declarations [] i = refl
first_declarations (a ∷ list) i = ap (or_else (firsts_declaration a i)) (first_declarations list i)

see_declarations : (o : Option (Vec Declaration Global)) (list : List tree.Declaration) → IsSeen (λ list. map view_declaration list.items) o list → IsSeen (λ list. view_declarations list.items) o list
see_declarations None list h = tt
see_declarations (Some v) list h = seen_declarations v.items ∙ h

pub shows_declarations : (read : Read (Vec Declaration Global)) (before : List tree.Declaration) → ShowsDeclarations read before → Shows (λ list. view_declarations list.items) firsts_declarations read (onto before [])
shows_declarations read before h = record {
  holds = holds_same read _ _ (first_declarations (onto before [])) h.holds;
  seen = see_declarations read.tree (onto before []) h.seen;
}
