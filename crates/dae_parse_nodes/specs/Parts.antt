-- What each kind of part shows: its tree, and what is kept beside the tree.
use Rattle.std.specs.Prelude.{◌≡◌, ℕ, Bool, true, false, List, [], ◌∷◌, Option, Some, None, Box, Vec}
use Rattle.std.specs.declared.alloc.Global.{Global}
use Rattle.dae_base.specs.declared.Place.{Place}
use Rattle.dae_tree.specs.declared.words.Keyword.{Keyword}
use Rattle.dae_tree.specs.declared.words.Keyword.TheVariants as keywords
use Rattle.dae_tree.specs.declared.expressions.Name.{Name}
use Rattle.dae_tree.specs.declared.expressions.Expression.{Expression}
use Rattle.dae_tree.specs.declared.expressions.Specifier.{Specifier}
use Rattle.dae_tree.specs.declared.expressions.Member.{Member}
use Rattle.dae_tree.specs.declared.expressions.Enumerator.{Enumerator}
use Rattle.dae_tree.specs.declared.expressions.Enumerator.TheVariants as enumerator
use Rattle.dae_tree.specs.declared.expressions.Declarator.{Declarator}
use Rattle.dae_tree.specs.declared.expressions.Parameter.{Parameter}
use Rattle.dae_tree.specs.declared.statements.Initialiser.{Initialiser}
use Rattle.dae_tree.specs.declared.statements.InitDeclarator.{InitDeclarator}
use Rattle.dae_tree.specs.declared.statements.Declaration.{Declaration}
use Rattle.dae_tree.specs.declared.statements.Statement.{Statement}
use Rattle.dae_tree.specs.declared.statements.External.{External}
use Rattle.dae_tree.specs.Trees as tree
use Rattle.dae_tree.specs.Views.{view, views_specifiers, view_specifier, view_declarator, views_declarators}
use Rattle.dae_tree.specs.FileViews.{view_initialiser, view_item, view_declaration, view_statement, view_external}
use Rattle.dae_tree.specs.Depth.{place_of, place_of_specifier}
use Rattle.dae_tree.specs.Names.{Names, declared_name, is_typedef_word, has_typedef, is_bare, with_parameters}
use Rattle.dae_tree.specs.Grammar.{level, void_word, void_alone}
use Rattle.dae_parse_grammar.specs.FirstPlaces.{Places, nowhere, both, firsts, firsts_specifiers, firsts_specifier, firsts_declarators, firsts_declarator, firsts_initialiser, firsts_value, firsts_declaration, firsts_statement, firsts_external}
use Rattle.dae_tree.specs.Lists as lists
use Rattle.dae_parse_grammar.specs.Frames as frames
use Rattle.dae_parse_grammar.specs.Machine.{parameters_onto}
use Rattle.dae_parse_parts.specs.declared.reading.Read.{Read}
use Rattle.dae_parse_nodes.specs.declared.values.ReadOperand.{ReadOperand}
use Rattle.dae_parse_nodes.specs.declared.values.Specified.{Specified}
use Rattle.dae_parse_nodes.specs.declared.values.Declared.{Declared}
use Rattle.dae_parse_nodes.specs.declared.values.ParameterList.{ParameterList}
use Rattle.dae_parse_nodes.specs.declared.values.Loop.{Loop}
use Rattle.dae_parse_parts.specs.Shown.{Shows, ShowsList, in_box}
use Rattle.dae_parse_parts.specs.ShownNames.{bound_all}

-- ---- expressions

abbrev pub ShowsExpression : Read (Box Expression Global) → tree.Expression → Type 0
ShowsExpression = Shows (in_box view) firsts

pub record ShowsOperand (o : ReadOperand) (e : tree.Expression) : Type 0 where
  pub read : ShowsExpression o.read e
  pub level : o.level ≡ level e
  pub place : o.place ≡ place_of e

abbrev pub ShowsArguments : Read (Vec Expression Global) → List tree.Expression → Type 0
ShowsArguments = ShowsList view firsts

-- an operand that may be lacking
abbrev pub ShowsOptional : Option ReadOperand → Option tree.Expression → Type 0
ShowsOptional None None = Unit {0}
ShowsOptional (Some o) (Some e) = ShowsOperand o e
ShowsOptional _ _ = ⊥

-- ---- specifiers

abbrev pub ShowsSpecifier : Read Specifier → tree.Specifier → Type 0
ShowsSpecifier = Shows view_specifier firsts_specifier

-- the word that a specifier is, and what such a word says
abbrev pub specifier_word : tree.Specifier → Option Keyword
specifier_word (tree.Word p k) = Some k
specifier_word _ = None

abbrev pub says_typedef : Option Keyword → Bool
says_typedef None = false
says_typedef (Some k) = is_typedef_word k

abbrev pub void_place : Place → Option Keyword → Option Place
void_place p (Some keywords.Void) = Some p
void_place p _ = None

abbrev pub ShowsSpecifiers : Read (Vec Specifier Global) → tree.Specifiers → Type 0
ShowsSpecifiers = Shows (λ list. views_specifiers list.items) firsts_specifiers

abbrev pub first_place : tree.Specifiers → Option Place
first_place tree.no_specifiers = None
first_place (tree.specifier_then w ws) = Some (place_of_specifier w)

-- with whether `typedef` is among them, the place of the first, and that of `void` where it stands alone
pub record ShowsSpecified (s : Specified) (ws : tree.Specifiers) : Type 0 where
  pub read : ShowsSpecifiers s.read ws
  pub typedef : s.typedef ≡ has_typedef ws
  pub place : s.place ≡ first_place ws
  pub void : s.void ≡ void_word ws

abbrev pub view_line : Member → lists.MemberLine
view_line m = record { specifiers = views_specifiers m.specifiers.items; declarators = views_declarators m.declarators.items; end = m.end }

abbrev pub firsts_line : lists.MemberLine → Places
firsts_line m = both (firsts_specifiers m.specifiers) (firsts_declarators m.declarators)

abbrev pub ShowsMembers : Read (Vec Member Global) → List lists.MemberLine → Type 0
ShowsMembers = ShowsList view_line firsts_line

abbrev pub view_entry : Enumerator → lists.EnumEntry
view_entry (enumerator.Plain n) = record { name = n; value = None }
view_entry (enumerator.Valued n p e) = record { name = n; value = Some (p, view e) }

abbrev pub firsts_entry : lists.EnumEntry → Places
firsts_entry e = elim e.value [ None ↦ nowhere | Some v ↦ firsts v.1 ]

abbrev pub ShowsEnumerators : Read (Vec Enumerator Global) → List lists.EnumEntry → Type 0
ShowsEnumerators = ShowsList view_entry firsts_entry

-- ---- declarators

abbrev pub ShowsDeclarator : Read (Box Declarator Global) → tree.Declarator → Type 0
ShowsDeclarator = Shows (in_box view_declarator) firsts_declarator

abbrev pub number_of : Option Name → Option ℕ
number_of None = None
number_of (Some n) = Some n.number

abbrev pub is_present : tree.Declarator → Bool
is_present tree.Absent = false
is_present _ = true

-- with its name, whether it has a part, whether a name is all of it but for parentheses, and the parameters for a body
pub record ShowsDeclared (d : Declared) (e : tree.Declarator) : Type 0 where
  pub read : ShowsDeclarator d.read e
  pub name : d.name ≡ number_of (declared_name e)
  pub present : d.present ≡ is_present e
  pub bare : d.bare ≡ is_bare e
  pub parameters : (names : Names) → with_parameters e names ≡ bound_all d.parameters.items names

abbrev pub ShowsDeclarators : Read (Vec Declarator Global) → List tree.Declarator → Type 0
ShowsDeclarators = ShowsList view_declarator firsts_declarator

abbrev pub view_parameter : Parameter → lists.Parameter
view_parameter p = record { specifiers = views_specifiers p.specifiers.items; declarator = view_declarator p.declarator }

abbrev pub firsts_parameter : lists.Parameter → Places
firsts_parameter p = both (firsts_specifiers p.specifiers) (firsts_declarator p.declarator)

abbrev pub ShowsParameterList : Read (Vec Parameter Global) → List lists.Parameter → Type 0
ShowsParameterList = ShowsList view_parameter firsts_parameter

abbrev pub is_some_list : {A : Type 0} → List A → Bool
is_some_list [] = false
is_some_list (a ∷ list) = true

pub record ShowsParameters (p : ParameterList) (before : List lists.Parameter) : Type 0 where
  pub read : ShowsParameterList p.read before
  pub any : p.any ≡ is_some_list before
  pub void : p.void ≡ void_alone (parameters_onto before tree.no_parameters)

-- ---- initialisers and declarations

abbrev pub ShowsInitialiser : Read Initialiser → tree.Initialiser → Type 0
ShowsInitialiser = Shows view_initialiser firsts_initialiser

abbrev pub ShowsInitialisers : Read (Vec Initialiser Global) → List tree.Initialiser → Type 0
ShowsInitialisers = ShowsList view_initialiser firsts_initialiser

abbrev pub firsts_item : tree.InitDeclarator → Places
firsts_item i = both (firsts_declarator i.declarator) (firsts_value i.initialiser)

abbrev pub ShowsItems : Read (Vec InitDeclarator Global) → List tree.InitDeclarator → Type 0
ShowsItems = ShowsList view_item firsts_item

abbrev pub ShowsDeclaration : Read Declaration → tree.Declaration → Type 0
ShowsDeclaration = Shows view_declaration firsts_declaration

abbrev pub ShowsDeclarations : Read (Vec Declaration Global) → List tree.Declaration → Type 0
ShowsDeclarations = ShowsList view_declaration firsts_declaration

abbrev pub ShowsExternal : Read External → tree.External → Type 0
ShowsExternal = Shows view_external firsts_external

abbrev pub ShowsExternals : Read (Vec External Global) → List tree.External → Type 0
ShowsExternals = ShowsList view_external firsts_external

-- ---- statements

abbrev pub ShowsStatement : Read (Box Statement Global) → tree.Statement → Type 0
ShowsStatement = Shows (in_box view_statement) firsts_statement

abbrev pub ShowsStatements : Read (Vec Statement Global) → List tree.Statement → Type 0
ShowsStatements = ShowsList view_statement firsts_statement

-- the parts of a `for` before its step
pub record ShowsLoop (l : Loop) (a : frames.Loop) : Type 0 where
  pub word : l.word ≡ a.word
  pub paren : l.paren ≡ a.paren
  pub start : ShowsOptional l.start a.start
  pub first : l.first ≡ a.first
  pub test : ShowsOptional l.test a.test
  pub second : l.second ≡ a.second
