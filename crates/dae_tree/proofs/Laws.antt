-- The laws of trees: parts of a tree in memory that are lists, seen as lists; and what specifiers of the grammar have.
use Rattle.std.proofs.Common.{◌≡◌, true, List, [], ◌∷◌, refl, sym, ap, ◌∙◌}
use Rattle.std.specs.Prelude.{Box, Vec, Option}
use Rattle.std.specs.declared.alloc.Global.{Global}
use Rattle.dae_base.specs.declared.Place.{Place}
use Rattle.dae_base.proofs.Laws.{ap_two, ap_three}
use Rattle.dae_tree.specs.declared.expressions.Name.{Name}
use Rattle.dae_tree.specs.declared.expressions.Expression.{Expression}
use Rattle.dae_tree.specs.declared.expressions.Expression.TheVariants as code
use Rattle.dae_tree.specs.declared.expressions.TypeName.{TypeName}
use Rattle.dae_tree.specs.declared.expressions.Specifier.{Specifier}
use Rattle.dae_tree.specs.declared.expressions.Specifier.TheVariants as specifier
use Rattle.dae_tree.specs.declared.expressions.Member.{Member}
use Rattle.dae_tree.specs.declared.expressions.Enumerator.{Enumerator}
use Rattle.dae_tree.specs.declared.expressions.Declarator.{Declarator}
use Rattle.dae_tree.specs.declared.expressions.Declarator.TheVariants as declarator
use Rattle.dae_tree.specs.declared.expressions.Parameter.{Parameter}
use Rattle.dae_tree.specs.declared.expressions.TrailingComma.{TrailingComma}
use Rattle.dae_tree.specs.declared.expressions.Declarator.TheBlock.{Row_of-Expression, end_of-Expression, more_of-Expression, items-the_row-Expression, items_hidden-the_row-Expression-2, Row_of-Specifier, end_of-Specifier, more_of-Specifier, items-the_row-Specifier, items_hidden-the_row-Specifier-0, items_shown-the_row-Specifier-0, items_shown-the_row-Declarator-3, Row_of-Member, end_of-Member, more_of-Member, items-the_row-Member, items_hidden-the_row-Member-4, Row_of-Enumerator, end_of-Enumerator, more_of-Enumerator, items-the_row-Enumerator, items_hidden-the_row-Enumerator-5, Row_of-Declarator, end_of-Declarator, more_of-Declarator, items-the_row-Declarator, Row_of-Parameter, end_of-Parameter, more_of-Parameter, items-the_row-Parameter, items_hidden-the_row-Parameter-1}
use Rattle.dae_tree.specs.declared.statements.Initialiser.{Initialiser, Row_of-Initialiser, end_of-Initialiser, more_of-Initialiser}
use Rattle.dae_tree.specs.declared.statements.Initialiser.TheVariants as initialiser
use Rattle.dae_tree.specs.declared.statements.Initialiser.TheBlock.{items-the_row-Initialiser, items_hidden-the_row-Initialiser-0}
use Rattle.dae_tree.specs.declared.statements.Block.{Block}
use Rattle.dae_tree.specs.declared.statements.Statement.{Statement, Row_of-Statement, end_of-Statement, more_of-Statement}
use Rattle.dae_tree.specs.declared.statements.Statement.TheVariants as statement
use Rattle.dae_tree.specs.declared.statements.Statement.TheBlock.{items-the_row-Statement, items_hidden-the_row-Statement-0}
use Rattle.dae_tree.specs.Trees as tree
use Rattle.dae_tree.specs.Views.{has_comma, view, views, view_expressions, view_specifier, view_specifiers, views_specifiers, view_members, views_members, view_enumerator, view_enumerators, views_enumerators, view_declarator, view_declarators, views_declarators, view_parameters, views_parameters}
use Rattle.dae_tree.specs.FileViews.{view_initialiser, view_initialisers, views_initialisers, view_declarations, view_statement, view_statements, views_statements}
use Rattle.dae_tree.specs.Grammar.{IsSpecifiers}
use Rattle.dae_tree.specs.Names.{Names}
use Rattle.dae_tree.specs.Words.{has_type, seen_after, seen_behind}
use Rattle.dae_tree.specs.declared.seen.Seen.{Seen}

row_expressions : (n : _) (row : Row_of-Expression n) → view_expressions row ≡ views (items-the_row-Expression n row)
row_expressions n end_of-Expression = refl
row_expressions n (more_of-Expression e rest) = ap (tree.expression_then (view e)) (row_expressions _ rest)

row_specifiers : (n : _) (row : Row_of-Specifier n) → view_specifiers row ≡ views_specifiers (items-the_row-Specifier n row)
row_specifiers n end_of-Specifier = refl
row_specifiers n (more_of-Specifier w rest) = ap (tree.specifier_then (view_specifier w)) (row_specifiers _ rest)

row_declarators : (n : _) (row : Row_of-Declarator n) → view_declarators row ≡ views_declarators (items-the_row-Declarator n row)
row_declarators n end_of-Declarator = refl
row_declarators n (more_of-Declarator d rest) = ap (tree.declarator_then (view_declarator d)) (row_declarators _ rest)

row_members : (n : _) (row : Row_of-Member n) → view_members row ≡ views_members (items-the_row-Member n row)
row_members n end_of-Member = refl
row_members n (more_of-Member shape specifiers kind declarators p rest) =
    ap_three (λ ws ds ms. tree.member_then ws ds p ms) (row_specifiers _ specifiers ∙ ap views_specifiers (sym (items_shown-the_row-Specifier-0 shape specifiers)))
    (row_declarators _ declarators ∙ ap views_declarators (sym (items_shown-the_row-Declarator-3 kind declarators))) (row_members _ rest)

row_enumerators : (n : _) (row : Row_of-Enumerator n) → view_enumerators row ≡ views_enumerators (items-the_row-Enumerator n row)
row_enumerators n end_of-Enumerator = refl
row_enumerators n (more_of-Enumerator e rest) = ap (view_enumerator e) (row_enumerators _ rest)

row_parameters : (n : _) (row : Row_of-Parameter n) → view_parameters row ≡ views_parameters (items-the_row-Parameter n row)
row_parameters n end_of-Parameter = refl
row_parameters n (more_of-Parameter shape specifiers d rest) =
    ap_two (λ ws ps. tree.parameter_then ws (view_declarator d) ps) (row_specifiers _ specifiers ∙ ap views_specifiers (sym (items_shown-the_row-Specifier-0 shape specifiers))) (row_parameters _ rest)

row_initialisers : (n : _) (row : Row_of-Initialiser n) → view_initialisers row ≡ views_initialisers (items-the_row-Initialiser n row)
row_initialisers n end_of-Initialiser = refl
row_initialisers n (more_of-Initialiser x rest) = ap (tree.initialiser_then (view_initialiser x)) (row_initialisers _ rest)

row_statements : (n : _) (row : Row_of-Statement n) → view_statements row ≡ views_statements (items-the_row-Statement n row)
row_statements n end_of-Statement = refl
row_statements n (more_of-Statement s rest) = ap (tree.statement_then (view_statement s)) (row_statements _ rest)

-- ---- the variants with a list

abbrev arguments_of : Expression → (n : _) × Row_of-Expression n
arguments_of (code.Call' _ _ _ _ row) = (_, row)
arguments_of _ = (_, end_of-Expression)

pub view_call : (f : Box Expression Global) (p : Place) (list : Vec Expression Global) → view (code.Call f p list) ≡ tree.Call (view f.value) p (views list.items)
view_call f p list =
    let row = arguments_of (code.Call f p list) in
    ap (tree.Call (view f.value) p) (row_expressions row.0 row.1 ∙ ap views (items_hidden-the_row-Expression-2 list))

abbrev words_of : Expression → (n : _) × Row_of-Specifier n
words_of (code.SizeofType' _ _ _ _ row _) = (_, row)
words_of (code.Cast' _ _ _ row _ _ _) = (_, row)
words_of _ = (_, end_of-Specifier)

pub view_sizeof_type : (p q : Place) (t : Box TypeName Global) → view (code.SizeofType p q t) ≡ tree.SizeofType p q (views_specifiers t.value.specifiers.items) (view_declarator t.value.declarator)
view_sizeof_type p q t =
    let row = words_of (code.SizeofType p q t) in
    ap (λ ws. tree.SizeofType p q ws (view_declarator t.value.declarator)) (row_specifiers row.0 row.1 ∙ ap views_specifiers (items_hidden-the_row-Specifier-0 t.value.specifiers))

pub view_cast : (p : Place) (t : Box TypeName Global) (e : Box Expression Global) → view (code.Cast p t e) ≡ tree.Cast p (views_specifiers t.value.specifiers.items) (view_declarator t.value.declarator) (view e.value)
view_cast p t e =
    let row = words_of (code.Cast p t e) in
    ap (λ ws. tree.Cast p ws (view_declarator t.value.declarator) (view e.value)) (row_specifiers row.0 row.1 ∙ ap views_specifiers (items_hidden-the_row-Specifier-0 t.value.specifiers))

abbrev members_of : Specifier → (n : _) × Row_of-Member n
members_of (specifier.StructureBody' _ _ _ _ row) = (_, row)
members_of _ = (_, end_of-Member)

pub view_structure_body : (p : Place) (n : Option Name) (q : Place) (list : Vec Member Global) → view_specifier (specifier.StructureBody p n q list) ≡ tree.StructureBody p n q (views_members list.items)
view_structure_body p n q list =
    let row = members_of (specifier.StructureBody p n q list) in
    ap (tree.StructureBody p n q) (row_members row.0 row.1 ∙ ap views_members (items_hidden-the_row-Member-4 list))

abbrev enumerators_of : Specifier → (n : _) × Row_of-Enumerator n
enumerators_of (specifier.EnumerationBody' _ _ _ _ row _) = (_, row)
enumerators_of _ = (_, end_of-Enumerator)

pub view_enumeration_body : (p : Place) (n : Option Name) (q : Place) (list : Vec Enumerator Global) (c : TrailingComma) → view_specifier (specifier.EnumerationBody p n q list c) ≡ tree.EnumerationBody p n q (views_enumerators list.items) (has_comma c)
view_enumeration_body p n q list c =
    let row = enumerators_of (specifier.EnumerationBody p n q list c) in
    ap (λ es. tree.EnumerationBody p n q es (has_comma c)) (row_enumerators row.0 row.1 ∙ ap views_enumerators (items_hidden-the_row-Enumerator-5 list))

abbrev parameters_of : Declarator → (n : _) × Row_of-Parameter n
parameters_of (declarator.Function' _ _ _ _ row) = (_, row)
parameters_of _ = (_, end_of-Parameter)

pub view_function : (d : Box Declarator Global) (p : Place) (list : Vec Parameter Global) → view_declarator (declarator.Function d p list) ≡ tree.Function (view_declarator d.value) p (views_parameters list.items)
view_function d p list =
    let row = parameters_of (declarator.Function d p list) in
    ap (tree.Function (view_declarator d.value) p) (row_parameters row.0 row.1 ∙ ap views_parameters (items_hidden-the_row-Parameter-1 list))

abbrev initialisers_of : Initialiser → (n : _) × Row_of-Initialiser n
initialisers_of (initialiser.List' _ _ row _) = (_, row)
initialisers_of _ = (_, end_of-Initialiser)

pub view_initialiser_list : (p : Place) (list : Vec Initialiser Global) (c : TrailingComma) → view_initialiser (initialiser.List p list c) ≡ tree.Listed p (views_initialisers list.items) (has_comma c)
view_initialiser_list p list c =
    let row = initialisers_of (initialiser.List p list c) in
    ap (λ xs. tree.Listed p xs (has_comma c)) (row_initialisers row.0 row.1 ∙ ap views_initialisers (items_hidden-the_row-Initialiser-0 list))

abbrev statements_of : Statement → (n : _) × Row_of-Statement n
statements_of (statement.Block' _ _ _ row) = (_, row)
statements_of _ = (_, end_of-Statement)

pub view_block : (b : Block) → view_statement (statement.Block b) ≡ tree.Block b.place (view_declarations b.declarations.items) (views_statements b.statements.items)
view_block b =
    let row = statements_of (statement.Block b) in
    ap (tree.Block b.place (view_declarations b.declarations.items)) (row_statements row.0 row.1 ∙ ap views_statements (items_hidden-the_row-Statement-0 b.statements))

-- ---- specifiers

-- specifiers of the grammar have a type
pub have_type : (seen : Seen) (names : Names) (ws : tree.Specifiers) → IsSpecifiers seen names ws → has_type (seen_behind seen ws) ≡ true
have_type seen names tree.no_specifiers h = h
have_type seen names (tree.specifier_then w ws) h = have_type (seen_after seen w) _ ws h.1
