-- Initialisers, declarations, statements and files in memory as plain data.
use Rattle.std.specs.Prelude.{List, [], ◌∷◌, Option, Some, None}
use Rattle.dae_base.specs.declared.Place.{Place}
use Rattle.dae_tree.specs.declared.statements.Initialiser.{Initialiser, Row_of-Initialiser, end_of-Initialiser, more_of-Initialiser}
use Rattle.dae_tree.specs.declared.statements.Initialiser.TheVariants as initialiser
use Rattle.dae_tree.specs.declared.statements.InitDeclarator.{InitDeclarator}
use Rattle.dae_tree.specs.declared.statements.Declaration.{Declaration}
use Rattle.dae_tree.specs.declared.statements.Statement.{Statement, Row_of-Statement, end_of-Statement, more_of-Statement}
use Rattle.dae_tree.specs.declared.statements.Statement.TheVariants as statement
use Rattle.dae_tree.specs.declared.statements.External.{External}
use Rattle.dae_tree.specs.declared.statements.External.TheVariants as external
use Rattle.dae_tree.specs.Trees as tree
use Rattle.dae_tree.specs.Views.{has_comma, view, view_optional, view_declarator, views_specifiers}

abbrev mutual
  pub view_initialiser : Initialiser → tree.Initialiser
  view_initialiser (initialiser.Value e) = tree.Value (view e.value)
  view_initialiser (initialiser.List' p shape row c) = tree.Listed p (view_initialisers row) (has_comma c)

  pub view_initialisers : {m : _} → Row_of-Initialiser m → tree.Initialisers
  view_initialisers end_of-Initialiser = tree.no_initialisers
  view_initialisers (more_of-Initialiser x rest) = tree.initialiser_then (view_initialiser x) (view_initialisers rest)

abbrev pub views_initialisers : List Initialiser → tree.Initialisers
views_initialisers [] = tree.no_initialisers
views_initialisers (x ∷ xs) = tree.initialiser_then (view_initialiser x) (views_initialisers xs)

abbrev pub view_value : Option (Place × Initialiser) → Option (Place × tree.Initialiser)
view_value None = None
view_value (Some v) = Some (v.0, view_initialiser v.1)

abbrev pub view_item : InitDeclarator → tree.InitDeclarator
view_item i = record { declarator = view_declarator i.declarator.value; initialiser = view_value i.initialiser }

abbrev pub view_items : List InitDeclarator → List tree.InitDeclarator
view_items [] = []
view_items (i ∷ items) = view_item i ∷ view_items items

abbrev pub view_declaration : Declaration → tree.Declaration
view_declaration d = record { specifiers = views_specifiers d.specifiers.items; items = view_items d.items.items; end = d.end }

abbrev pub view_declarations : List Declaration → List tree.Declaration
view_declarations [] = []
view_declarations (d ∷ ds) = view_declaration d ∷ view_declarations ds

abbrev mutual
  pub view_statement : Statement → tree.Statement
  view_statement (statement.Block' p ds shape row) = tree.Block p (view_declarations ds.items) (view_statements row)
  view_statement (statement.Empty p) = tree.Nothing p
  view_statement (statement.Evaluate e p) = tree.Evaluate (view e.value) p
  view_statement (statement.If' p t b s) = tree.If p t.place (view t.expression.value) (view_statement s)
  view_statement (statement.IfElse' p t b s c u) = tree.IfElse p t.place (view t.expression.value) (view_statement s) (view_statement u)
  view_statement (statement.While' p t b s) = tree.While p t.place (view t.expression.value) (view_statement s)
  view_statement (statement.Do' p b s q t r) = tree.Do p (view_statement s) q t.place (view t.expression.value) r
  view_statement (statement.For' p q h b s) = tree.For p q (view_optional h.start) h.after_start (view_optional h.test) h.after_test (view_optional h.step) (view_statement s)
  view_statement (statement.Break p q) = tree.Break p q
  view_statement (statement.Continue p q) = tree.Continue p q
  view_statement (statement.Return p e q) = tree.Return p (view_optional e) q
  view_statement (statement.Switch' p t b s) = tree.Switch p t.place (view t.expression.value) (view_statement s)
  view_statement (statement.Case' p e b s) = tree.Case p (view e.value) (view_statement s)
  view_statement (statement.Default' p b s) = tree.Default p (view_statement s)

  pub view_statements : {m : _} → Row_of-Statement m → tree.Statements
  view_statements end_of-Statement = tree.no_statements
  view_statements (more_of-Statement s rest) = tree.statement_then (view_statement s) (view_statements rest)

abbrev pub views_statements : List Statement → tree.Statements
views_statements [] = tree.no_statements
views_statements (s ∷ ss) = tree.statement_then (view_statement s) (views_statements ss)

abbrev pub view_external : External → tree.External
view_external (external.Declaration d) = tree.Declared (view_declaration d)
view_external (external.Definition ws d b) =
    tree.Defined (views_specifiers ws.items) (view_declarator d.value) b.place (view_declarations b.declarations.items) (views_statements b.statements.items)

-- a file's tree
abbrev pub view_externals : List External → List tree.External
view_externals [] = []
view_externals (x ∷ xs) = view_external x ∷ view_externals xs
