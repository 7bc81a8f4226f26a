-- The lists of a tree as lists of records, so that what is said of a structure or of parameters is said of lists.
use Rattle.std.specs.Prelude.{List, [], ◌∷◌, Option, Some, None}
use Rattle.dae_base.specs.declared.Place.{Place}
use Rattle.dae_tree.specs.declared.expressions.Name.{Name}
use Rattle.dae_tree.specs.Trees.{Expression, Expressions, no_expressions, expression_then, Specifiers, Specifier, no_specifiers, specifier_then, Members, no_members, member_then, Enumerators, no_enumerators, plain_then, valued_then, Declarators, Declarator, no_declarators, declarator_then, Parameters, no_parameters, parameter_then, Initialisers, Initialiser, no_initialisers, initialiser_then, Statements, Statement, no_statements, statement_then}

-- a declaration of members, with the place of its semicolon
pub record MemberLine : Type 0 where
  pub specifiers : Specifiers
  pub declarators : Declarators
  pub end : Place

-- an enumerator, with the place of `=` and its value or without
pub record EnumEntry : Type 0 where
  pub name : Name
  pub value : Option (Place × Expression)

pub record Parameter : Type 0 where
  pub specifiers : Specifiers
  pub declarator : Declarator

abbrev pub argument_list : Expressions → List Expression
argument_list no_expressions = []
argument_list (expression_then e es) = e ∷ argument_list es

abbrev pub specifier_list : Specifiers → List Specifier
specifier_list no_specifiers = []
specifier_list (specifier_then w ws) = w ∷ specifier_list ws

abbrev pub member_list : Members → List MemberLine
member_list no_members = []
member_list (member_then ws ds p ms) = record { specifiers = ws; declarators = ds; end = p } ∷ member_list ms

abbrev pub entry_list : Enumerators → List EnumEntry
entry_list no_enumerators = []
entry_list (plain_then n es) = record { name = n; value = None } ∷ entry_list es
entry_list (valued_then n p e es) = record { name = n; value = Some (p, e) } ∷ entry_list es

abbrev pub declarator_list : Declarators → List Declarator
declarator_list no_declarators = []
declarator_list (declarator_then d ds) = d ∷ declarator_list ds

abbrev pub parameter_list : Parameters → List Parameter
parameter_list no_parameters = []
parameter_list (parameter_then ws d ps) = record { specifiers = ws; declarator = d } ∷ parameter_list ps

abbrev pub initialiser_list : Initialisers → List Initialiser
initialiser_list no_initialisers = []
initialiser_list (initialiser_then x xs) = x ∷ initialiser_list xs

abbrev pub statement_list : Statements → List Statement
statement_list no_statements = []
statement_list (statement_then s ss) = s ∷ statement_list ss
