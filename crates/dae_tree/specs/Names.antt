-- The names in scope, and which of them name types: the bindings that reading a tree adds (C90 6.1.2.1 and 6.5.6).
use Rattle.std.specs.Prelude.{ℕ, Bool, true, false, ◌||◌, if◌then◌else◌, nat_eq, List, [], ◌∷◌, Option, Some, None}
use Rattle.dae_base.specs.declared.Place.{Place}
use Rattle.dae_tree.specs.declared.words.Keyword.{Keyword}
use Rattle.dae_tree.specs.declared.words.Keyword.TheVariants as keywords
use Rattle.dae_tree.specs.declared.expressions.Name.{Name}
use Rattle.dae_tree.specs.Trees.{Expression, Expressions, Specifiers, Specifier, Members, Enumerators, Declarators, Declarator, Parameters, Initialiser, Initialisers, InitDeclarator, Declaration, Statement, Statements, External, Identifier, Number, Literal, Parenthesised, Index, Call, Member, Postfix, Prefix, SizeofExpression, SizeofType, Cast, Binary, Conditional, Assignment, Comma, no_expressions, expression_then, no_specifiers, specifier_then, Word, TypeName, Structure, StructureBody, Enumeration, EnumerationBody, no_members, member_then, no_enumerators, plain_then, valued_then, no_declarators, declarator_then, Absent, Named, Pointer, Grouped, Unsized, Sized, Empty, Void, Function, no_parameters, parameter_then, Value, Listed, no_initialisers, initialiser_then, Block, Nothing, Evaluate, If, IfElse, While, Do, For, Break, Continue, Return, Switch, Case, Default, no_statements, statement_then, Declared, Defined}

-- names with whether they name types, the latest first
abbrev pub Names : Type 0
Names = List (ℕ × Bool)

abbrev pub is_type : Names → ℕ → Bool
is_type [] n = false
is_type (b ∷ names) n = if nat_eq b.0 n then b.1 else is_type names n

abbrev pub with_name : Bool → Name → Names → Names
with_name is n names = (n.number, is) ∷ names

-- the name that a declarator declares
abbrev pub declared_name : Declarator → Option Name
declared_name Absent = None
declared_name (Named n) = Some n
declared_name (Pointer p qs d) = declared_name d
declared_name (Grouped p d) = declared_name d
declared_name (Unsized d p) = declared_name d
declared_name (Sized d p e) = declared_name d
declared_name (Empty d p) = declared_name d
declared_name (Void d p q) = declared_name d
declared_name (Function d p ps) = declared_name d

abbrev pub with_optional : Bool → Option Name → Names → Names
with_optional is None names = names
with_optional is (Some n) names = with_name is n names

abbrev pub with_declarator : Bool → Declarator → Names → Names
with_declarator is d names = with_optional is (declared_name d) names

abbrev pub is_typedef_word : Keyword → Bool
is_typedef_word keywords.Typedef = true
is_typedef_word _ = false

abbrev pub is_typedef_specifier : Specifier → Bool
is_typedef_specifier (Word p k) = is_typedef_word k
is_typedef_specifier _ = false

abbrev pub has_typedef : Specifiers → Bool
has_typedef no_specifiers = false
has_typedef (specifier_then w ws) = is_typedef_specifier w || has_typedef ws

-- What reading a tree adds. Enumerators are names of the scope that they stand in. The parameters of a function are names
-- up to its closing parenthesis.
abbrev mutual
  pub after : Expression → Names → Names
  after (Identifier n) names = names
  after (Number p c) names = names
  after (Literal p n) names = names
  after (Parenthesised p a) names = after a names
  after (Index a p b) names = after b (after a names)
  after (Call f p xs) names = after_all xs (after f names)
  after (Member a p o n) names = after a names
  after (Postfix a p o) names = after a names
  after (Prefix p o a) names = after a names
  after (SizeofExpression p a) names = after a names
  after (SizeofType p q ws d) names = after_declarator d (after_specifiers ws names)
  after (Cast p ws d a) names = after a (after_declarator d (after_specifiers ws names))
  after (Binary a p o b) names = after b (after a names)
  after (Conditional a p b c) names = after c (after b (after a names))
  after (Assignment a p o b) names = after b (after a names)
  after (Comma a b) names = after b (after a names)

  pub after_all : Expressions → Names → Names
  after_all no_expressions names = names
  after_all (expression_then a xs) names = after_all xs (after a names)

  pub after_specifiers : Specifiers → Names → Names
  after_specifiers no_specifiers names = names
  after_specifiers (specifier_then w ws) names = after_specifiers ws (after_specifier w names)

  pub after_specifier : Specifier → Names → Names
  after_specifier (Word p k) names = names
  after_specifier (TypeName n) names = names
  after_specifier (Structure p n) names = names
  after_specifier (StructureBody p n q ms) names = after_members ms names
  after_specifier (Enumeration p n) names = names
  after_specifier (EnumerationBody p n q es c) names = after_enumerators es names

  pub after_members : Members → Names → Names
  after_members no_members names = names
  after_members (member_then ws ds p ms) names = after_members ms (after_declarators ds (after_specifiers ws names))

  pub after_enumerators : Enumerators → Names → Names
  after_enumerators no_enumerators names = names
  after_enumerators (plain_then n es) names = after_enumerators es (with_name false n names)
  after_enumerators (valued_then n p e es) names = after_enumerators es (with_name false n (after e names))

  pub after_declarators : Declarators → Names → Names
  after_declarators no_declarators names = names
  after_declarators (declarator_then d ds) names = after_declarators ds (after_declarator d names)

  pub after_declarator : Declarator → Names → Names
  after_declarator Absent names = names
  after_declarator (Named n) names = names
  after_declarator (Pointer p qs d) names = after_declarator d names
  after_declarator (Grouped p d) names = after_declarator d names
  after_declarator (Unsized d p) names = after_declarator d names
  after_declarator (Sized d p e) names = after e (after_declarator d names)
  after_declarator (Empty d p) names = after_declarator d names
  after_declarator (Void d p q) names = after_declarator d names
  after_declarator (Function d p ps) names = after_declarator d names

-- with the parameters themselves
abbrev pub after_parameter : Specifiers → Declarator → Names → Names
after_parameter ws d names = with_declarator (has_typedef ws) d (after_declarator d (after_specifiers ws names))

abbrev pub after_parameters : Parameters → Names → Names
after_parameters no_parameters names = names
after_parameters (parameter_then ws d ps) names = after_parameters ps (after_parameter ws d names)

-- in the body of a function: the parameters of the part that makes the declared name a function
abbrev pub is_bare : Declarator → Bool
is_bare (Named n) = true
is_bare (Grouped p d) = is_bare d
is_bare _ = false

-- the part that makes the declared name a function
abbrev pub function_part : Declarator → Option Declarator
function_part Absent = None
function_part (Named n) = None
function_part (Pointer p qs d) = function_part d
function_part (Grouped p d) = function_part d
function_part (Unsized d p) = function_part d
function_part (Sized d p e) = function_part d
function_part (Empty d p) = if is_bare d then Some (Empty d p) else function_part d
function_part (Void d p q) = if is_bare d then Some (Void d p q) else function_part d
function_part (Function d p ps) = if is_bare d then Some (Function d p ps) else function_part d

abbrev pub with_parameters : Declarator → Names → Names
with_parameters Absent names = names
with_parameters (Named n) names = names
with_parameters (Pointer p qs d) names = with_parameters d names
with_parameters (Grouped p d) names = with_parameters d names
with_parameters (Unsized d p) names = with_parameters d names
with_parameters (Sized d p e) names = with_parameters d names
with_parameters (Empty d p) names = with_parameters d names
with_parameters (Void d p q) names = with_parameters d names
with_parameters (Function d p ps) names = if is_bare d then after_parameters ps names else with_parameters d names

abbrev mutual
  pub after_initialiser : Initialiser → Names → Names
  after_initialiser (Value e) names = after e names
  after_initialiser (Listed p xs c) names = after_initialisers xs names

  pub after_initialisers : Initialisers → Names → Names
  after_initialisers no_initialisers names = names
  after_initialisers (initialiser_then x xs) names = after_initialisers xs (after_initialiser x names)

abbrev pub after_value : Option (Place × Initialiser) → Names → Names
after_value None names = names
after_value (Some x) names = after_initialiser x.1 names

abbrev pub after_item : Bool → InitDeclarator → Names → Names
after_item is item names = after_value item.initialiser (with_declarator is item.declarator (after_declarator item.declarator names))

abbrev pub after_items : Bool → List InitDeclarator → Names → Names
after_items is [] names = names
after_items is (i ∷ items) names = after_items is items (after_item is i names)

abbrev pub after_declaration : Declaration → Names → Names
after_declaration d names = after_items (has_typedef d.specifiers) d.items (after_specifiers d.specifiers names)

abbrev pub after_declarations : List Declaration → Names → Names
after_declarations [] names = names
after_declarations (d ∷ ds) names = after_declarations ds (after_declaration d names)

abbrev pub after_optional : Option Expression → Names → Names
after_optional None names = names
after_optional (Some e) names = after e names

-- the names of a block are forgotten at its end
abbrev mutual
  pub after_statement : Statement → Names → Names
  after_statement (Block p ds ss) names = names
  after_statement (Nothing p) names = names
  after_statement (Evaluate e p) names = after e names
  after_statement (If p q e s) names = after_statement s (after e names)
  after_statement (IfElse p q e s u) names = after_statement u (after_statement s (after e names))
  after_statement (While p q e s) names = after_statement s (after e names)
  after_statement (Do p s q r e u) names = after e (after_statement s names)
  after_statement (For p q a r b u c s) names = after_statement s (after_optional c (after_optional b (after_optional a names)))
  after_statement (Break p q) names = names
  after_statement (Continue p q) names = names
  after_statement (Return p e q) names = after_optional e names
  after_statement (Switch p q e s) names = after_statement s (after e names)
  after_statement (Case p e s) names = after_statement s (after e names)
  after_statement (Default p s) names = after_statement s names

abbrev pub after_statements : Statements → Names → Names
after_statements no_statements names = names
after_statements (statement_then s ss) names = after_statements ss (after_statement s names)

abbrev pub after_external : External → Names → Names
after_external (Declared d) names = after_declaration d names
after_external (Defined ws d p ds ss) names = after_parameter ws d names

abbrev pub inside_definition : Specifiers → Declarator → Names → Names
inside_definition ws d names = with_parameters d (after_parameter ws d names)
