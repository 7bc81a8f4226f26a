-- What the tokens of a tree pay for: 4 for each token, and a price for the bytes of each literal. The names that declarators
-- declare are counted apart. Specifiers and declarators pay for nothing but these names.
use Rattle.std.specs.Prelude.{◌≡◌, ℕ, ◌+◌, ◌*◌, ◌≤◌, List, [], ◌∷◌, length, Option, Some, None}
use Rattle.dae_base.specs.declared.Place.{Place}
use Rattle.dae_tree.specs.Marks.{literal_numbers}
use Rattle.dae_tree.specs.Names.{Names}
use Rattle.dae_tree.specs.Statements.{spell_external, spell_file, IsExternal}
use Rattle.dae_tree.specs.Trees.{Expression, Expressions, Specifiers, Specifier, Members, Enumerators, Declarators, Declarator, Parameters, Initialiser, Initialisers, InitDeclarator, Declaration, Statement, Statements, External, Identifier, Number, Literal, Parenthesised, Index, Call, Member, Postfix, Prefix, SizeofExpression, SizeofType, Cast, Binary, Conditional, Assignment, Comma, no_expressions, expression_then, no_specifiers, specifier_then, Word, TypeName, Structure, StructureBody, Enumeration, EnumerationBody, no_members, member_then, no_enumerators, plain_then, valued_then, no_declarators, declarator_then, Absent, Named, Pointer, Grouped, Unsized, Sized, Empty, Void, Function, no_parameters, parameter_then, Value, Listed, no_initialisers, initialiser_then, Block, Nothing, Evaluate, If, IfElse, While, Do, For, Break, Continue, Return, Switch, Case, Default, no_statements, statement_then, Declared, Defined}

-- ---- what each token of an expression pays

abbrev mutual
  pub worth : (price : ℕ → ℕ) → Expression → ℕ
  worth price (Identifier n) = 4
  worth price (Number p c) = 4
  worth price (Literal p n) = 4 + price n
  worth price (Parenthesised p a) = 8 + worth price a
  worth price (Index a p b) = 8 + (worth price a + worth price b)
  worth price (Call f p xs) = 8 + (worth price f + worth_of_all price xs)
  worth price (Member a p o n) = 8 + worth price a
  worth price (Postfix a p o) = 4 + worth price a
  worth price (Prefix p o a) = 4 + worth price a
  worth price (SizeofExpression p a) = 4 + worth price a
  worth price (SizeofType p q ws d) = 12
  worth price (Cast p ws d a) = 8 + worth price a
  worth price (Binary a p o b) = 4 + (worth price a + worth price b)
  worth price (Conditional a p b c) = 8 + (worth price a + (worth price b + worth price c))
  worth price (Assignment a p o b) = 4 + (worth price a + worth price b)
  worth price (Comma a b) = 4 + (worth price a + worth price b)

  -- arguments
  pub worth_of_all : (price : ℕ → ℕ) → Expressions → ℕ
  worth_of_all price no_expressions = 0
  worth_of_all price (expression_then a xs) = worth price a + worth_of_more price xs

  -- those behind a comma
  pub worth_of_more : (price : ℕ → ℕ) → Expressions → ℕ
  worth_of_more price no_expressions = 0
  worth_of_more price (expression_then a xs) = 4 + (worth price a + worth_of_more price xs)

-- ---- the same of initialisers, declarations and statements; an item has the comma or semicolon behind it

abbrev mutual
  pub worth_of_initialiser : (price : ℕ → ℕ) → Initialiser → ℕ
  worth_of_initialiser price (Value e) = worth price e
  worth_of_initialiser price (Listed p xs c) = 8 + worth_of_initialisers price xs

  pub worth_of_initialisers : (price : ℕ → ℕ) → Initialisers → ℕ
  worth_of_initialisers price no_initialisers = 0
  worth_of_initialisers price (initialiser_then x xs) = worth_of_initialiser price x + worth_of_initialisers price xs

abbrev pub worth_of_value : (price : ℕ → ℕ) → Option (Place × Initialiser) → ℕ
worth_of_value price None = 0
worth_of_value price (Some x) = 4 + worth_of_initialiser price x.1

abbrev pub worth_of_items : (price : ℕ → ℕ) → List InitDeclarator → ℕ
worth_of_items price [] = 0
worth_of_items price (i ∷ items) = 4 + (worth_of_value price i.initialiser + worth_of_items price items)

abbrev pub worth_of_declarations : (price : ℕ → ℕ) → List Declaration → ℕ
worth_of_declarations price [] = 0
worth_of_declarations price (d ∷ ds) = worth_of_items price d.items + worth_of_declarations price ds

abbrev pub worth_of_optional : (price : ℕ → ℕ) → Option Expression → ℕ
worth_of_optional price None = 0
worth_of_optional price (Some e) = worth price e

abbrev mutual
  pub worth_of_statement : (price : ℕ → ℕ) → Statement → ℕ
  worth_of_statement price (Block p ds ss) = 8 + (worth_of_declarations price ds + worth_of_statements price ss)
  worth_of_statement price (Nothing p) = 4
  worth_of_statement price (Evaluate e p) = 4 + worth price e
  worth_of_statement price (If p q e s) = 12 + (worth price e + worth_of_statement price s)
  worth_of_statement price (IfElse p q e s u) = 16 + (worth price e + (worth_of_statement price s + worth_of_statement price u))
  worth_of_statement price (While p q e s) = 12 + (worth price e + worth_of_statement price s)
  worth_of_statement price (Do p s q r e u) = 20 + (worth_of_statement price s + worth price e)
  worth_of_statement price (For p q a r b u c s) =
      20 + (worth_of_optional price a + (worth_of_optional price b + (worth_of_optional price c + worth_of_statement price s)))
  worth_of_statement price (Break p q) = 8
  worth_of_statement price (Continue p q) = 8
  worth_of_statement price (Return p e q) = 8 + worth_of_optional price e
  worth_of_statement price (Switch p q e s) = 12 + (worth price e + worth_of_statement price s)
  worth_of_statement price (Case p e s) = 8 + (worth price e + worth_of_statement price s)
  worth_of_statement price (Default p s) = 8 + worth_of_statement price s

  pub worth_of_statements : (price : ℕ → ℕ) → Statements → ℕ
  worth_of_statements price no_statements = 0
  worth_of_statements price (statement_then s ss) = worth_of_statement price s + worth_of_statements price ss

-- ---- how many names the declarators of a tree declare

abbrev mutual
  pub declares : Expression → ℕ
  declares (Identifier n) = 0
  declares (Number p c) = 0
  declares (Literal p n) = 0
  declares (Parenthesised p a) = declares a
  declares (Index a p b) = declares a + declares b
  declares (Call f p xs) = declares f + declares_in_all xs
  declares (Member a p o n) = declares a
  declares (Postfix a p o) = declares a
  declares (Prefix p o a) = declares a
  declares (SizeofExpression p a) = declares a
  declares (SizeofType p q ws d) = declares_in_specifiers ws + declares_in d
  declares (Cast p ws d a) = declares_in_specifiers ws + (declares_in d + declares a)
  declares (Binary a p o b) = declares a + declares b
  declares (Conditional a p b c) = declares a + (declares b + declares c)
  declares (Assignment a p o b) = declares a + declares b
  declares (Comma a b) = declares a + declares b

  pub declares_in_all : Expressions → ℕ
  declares_in_all no_expressions = 0
  declares_in_all (expression_then a xs) = declares a + declares_in_all xs

  pub declares_in_specifiers : Specifiers → ℕ
  declares_in_specifiers no_specifiers = 0
  declares_in_specifiers (specifier_then w ws) = declares_in_specifier w + declares_in_specifiers ws

  pub declares_in_specifier : Specifier → ℕ
  declares_in_specifier (Word p k) = 0
  declares_in_specifier (TypeName n) = 0
  declares_in_specifier (Structure p n) = 0
  declares_in_specifier (StructureBody p n q ms) = declares_in_members ms
  declares_in_specifier (Enumeration p n) = 0
  declares_in_specifier (EnumerationBody p n q es c) = declares_in_enumerators es

  pub declares_in_members : Members → ℕ
  declares_in_members no_members = 0
  declares_in_members (member_then ws ds p ms) = declares_in_specifiers ws + (declares_in_declarators ds + declares_in_members ms)

  pub declares_in_enumerators : Enumerators → ℕ
  declares_in_enumerators no_enumerators = 0
  declares_in_enumerators (plain_then n es) = declares_in_enumerators es
  declares_in_enumerators (valued_then n p e es) = declares e + declares_in_enumerators es

  pub declares_in_declarators : Declarators → ℕ
  declares_in_declarators no_declarators = 0
  declares_in_declarators (declarator_then d ds) = declares_in d + declares_in_declarators ds

  pub declares_in : Declarator → ℕ
  declares_in Absent = 0
  declares_in (Named n) = 1
  declares_in (Pointer p qs d) = declares_in d
  declares_in (Grouped p d) = declares_in d
  declares_in (Unsized d p) = declares_in d
  declares_in (Sized d p e) = declares_in d + declares e
  declares_in (Empty d p) = declares_in d
  declares_in (Void d p q) = declares_in d
  declares_in (Function d p ps) = declares_in d + declares_in_parameters ps

  pub declares_in_parameters : Parameters → ℕ
  declares_in_parameters no_parameters = 0
  declares_in_parameters (parameter_then ws d ps) = declares_in_specifiers ws + (declares_in d + declares_in_parameters ps)

abbrev mutual
  pub declares_in_initialiser : Initialiser → ℕ
  declares_in_initialiser (Value e) = declares e
  declares_in_initialiser (Listed p xs c) = declares_in_initialisers xs

  pub declares_in_initialisers : Initialisers → ℕ
  declares_in_initialisers no_initialisers = 0
  declares_in_initialisers (initialiser_then x xs) = declares_in_initialiser x + declares_in_initialisers xs

abbrev pub declares_in_value : Option (Place × Initialiser) → ℕ
declares_in_value None = 0
declares_in_value (Some x) = declares_in_initialiser x.1

abbrev pub declares_in_items : List InitDeclarator → ℕ
declares_in_items [] = 0
declares_in_items (i ∷ items) = declares_in i.declarator + (declares_in_value i.initialiser + declares_in_items items)

abbrev pub declares_in_declarations : List Declaration → ℕ
declares_in_declarations [] = 0
declares_in_declarations (d ∷ ds) = declares_in_specifiers d.specifiers + (declares_in_items d.items + declares_in_declarations ds)

abbrev pub declares_in_optional : Option Expression → ℕ
declares_in_optional None = 0
declares_in_optional (Some e) = declares e

abbrev mutual
  pub declares_in_statement : Statement → ℕ
  declares_in_statement (Block p ds ss) = declares_in_declarations ds + declares_in_statements ss
  declares_in_statement (Nothing p) = 0
  declares_in_statement (Evaluate e p) = declares e
  declares_in_statement (If p q e s) = declares e + declares_in_statement s
  declares_in_statement (IfElse p q e s u) = declares e + (declares_in_statement s + declares_in_statement u)
  declares_in_statement (While p q e s) = declares e + declares_in_statement s
  declares_in_statement (Do p s q r e u) = declares_in_statement s + declares e
  declares_in_statement (For p q a r b u c s) =
      declares_in_optional a + (declares_in_optional b + (declares_in_optional c + declares_in_statement s))
  declares_in_statement (Break p q) = 0
  declares_in_statement (Continue p q) = 0
  declares_in_statement (Return p e q) = declares_in_optional e
  declares_in_statement (Switch p q e s) = declares e + declares_in_statement s
  declares_in_statement (Case p e s) = declares e + declares_in_statement s
  declares_in_statement (Default p s) = declares_in_statement s

  pub declares_in_statements : Statements → ℕ
  declares_in_statements no_statements = 0
  declares_in_statements (statement_then s ss) = declares_in_statement s + declares_in_statements ss

-- ---- of a whole definition or declaration

abbrev pub worth_of_external : (price : ℕ → ℕ) → External → ℕ
worth_of_external price (Declared d) = worth_of_items price d.items
worth_of_external price (Defined ws d p ds ss) = worth_of_statement price (Block p ds ss)

abbrev pub declares_in_external : External → ℕ
declares_in_external (Declared d) = declares_in_specifiers d.specifiers + declares_in_items d.items
declares_in_external (Defined ws d p ds ss) = declares_in_specifiers ws + (declares_in d + declares_in_statement (Block p ds ss))

-- ---- the law

-- the prices of literals, by their numbers
abbrev pub priced : (price : ℕ → ℕ) → List ℕ → ℕ
priced price [] = 0
priced price (n ∷ ns) = price n + priced price ns

-- the tokens and literals of a definition pay for its tree, and for 4 for each name that it declares
abbrev pub TokensPay : Type 0
TokensPay =
    (price : ℕ → ℕ) (x : External) →
    worth_of_external price x + 4 * declares_in_external x
    ≤ 4 * length (spell_external x []) + priced price (literal_numbers (spell_external x []))

-- what the tokens and literals of a definition pay, and those of all
abbrev pub pay_of : (price : ℕ → ℕ) → External → ℕ
pay_of price x = 4 * length (spell_external x []) + priced price (literal_numbers (spell_external x []))

abbrev pub pay_of_all : (price : ℕ → ℕ) → List External → ℕ
pay_of_all price [] = 0
pay_of_all price (x ∷ xs) = pay_of price x + pay_of_all price xs

-- the tokens of a file are those of its definitions and declarations
abbrev pub PartsPay : Type 0
PartsPay =
    (price : ℕ → ℕ) (xs : List External) → pay_of_all price xs ≡ 4 * length (spell_file xs []) + priced price (literal_numbers (spell_file xs []))

-- ---- definitions

abbrev pub IsDefinition : External → Type 0
IsDefinition (Declared d) = ⊥
IsDefinition (Defined ws d p ds ss) = Unit {0}

-- a definition of the grammar has a specifier, a declarator and two braces
abbrev pub DefinitionsAreLong : Type 0
DefinitionsAreLong = (names : Names) (x : External) → IsDefinition x → IsExternal names x → 4 ≤ length (spell_external x [])
