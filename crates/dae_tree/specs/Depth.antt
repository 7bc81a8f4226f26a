-- The nodes of a tree in the order of the text, each with its depth and the place of its first token. What stands at file
-- scope has depth 1, each other node is one deeper than the node that holds it. Parameters, members, enumerators, items,
-- type names and specifiers without a body are no nodes: what they hold is held by the node round them.
use Rattle.std.specs.Prelude.{ℕ, suc, Bool, false, List, [], ◌∷◌, Option, Some, None, ltb, if◌then◌else◌, length}
use Rattle.dae_base.specs.declared.Place.{Place}
use Rattle.dae_tree.specs.Statements.{spell_external}
use Rattle.dae_tree.specs.Trees.{Expression, Expressions, Specifiers, Specifier, Members, Enumerators, Declarators, Declarator, Parameters, Initialiser, Initialisers, InitDeclarator, Declaration, Statement, Statements, External, Identifier, Number, Literal, Parenthesised, Index, Call, Member, Postfix, Prefix, SizeofExpression, SizeofType, Cast, Binary, Conditional, Assignment, Comma, no_expressions, expression_then, no_specifiers, specifier_then, Word, TypeName, Structure, StructureBody, Enumeration, EnumerationBody, no_members, member_then, no_enumerators, plain_then, valued_then, no_declarators, declarator_then, Absent, Named, Pointer, Grouped, Unsized, Sized, Empty, Void, Function, no_parameters, parameter_then, Value, Listed, no_initialisers, initialiser_then, Block, Nothing, Evaluate, If, IfElse, While, Do, For, Break, Continue, Return, Switch, Case, Default, no_statements, statement_then, Declared, Defined}

-- ---- places

abbrev pub place_of : Expression → Place
place_of (Identifier n) = n.place
place_of (Number p c) = p
place_of (Literal p n) = p
place_of (Parenthesised p a) = p
place_of (Index a p b) = place_of a
place_of (Call f p xs) = place_of f
place_of (Member a p o n) = place_of a
place_of (Postfix a p o) = place_of a
place_of (Prefix p o a) = p
place_of (SizeofExpression p a) = p
place_of (SizeofType p q ws d) = p
place_of (Cast p ws d a) = p
place_of (Binary a p o b) = place_of a
place_of (Conditional a p b c) = place_of a
place_of (Assignment a p o b) = place_of a
place_of (Comma a b) = place_of a

-- the place of a declarator before a token at this place
abbrev pub place_before : Declarator → Place → Place
place_before Absent q = q
place_before (Named n) q = n.place
place_before (Pointer p qs d) q = p
place_before (Grouped p d) q = p
place_before (Unsized d p) q = place_before d p
place_before (Sized d p e) q = place_before d p
place_before (Empty d p) q = place_before d p
place_before (Void d p r) q = place_before d p
place_before (Function d p ps) q = place_before d p

abbrev pub place_of_specifier : Specifier → Place
place_of_specifier (Word p k) = p
place_of_specifier (TypeName n) = n.place
place_of_specifier (Structure p n) = p
place_of_specifier (StructureBody p n q ms) = p
place_of_specifier (Enumeration p n) = p
place_of_specifier (EnumerationBody p n q es c) = p

abbrev pub place_of_specifiers : Specifiers → Place → Place
place_of_specifiers no_specifiers q = q
place_of_specifiers (specifier_then w ws) q = place_of_specifier w

abbrev pub place_of_statement : Statement → Place
place_of_statement (Block p ds ss) = p
place_of_statement (Nothing p) = p
place_of_statement (Evaluate e p) = place_of e
place_of_statement (If p q e s) = p
place_of_statement (IfElse p q e s u) = p
place_of_statement (While p q e s) = p
place_of_statement (Do p s q r e u) = p
place_of_statement (For p q a r b u c s) = p
place_of_statement (Break p q) = p
place_of_statement (Continue p q) = p
place_of_statement (Return p e q) = p
place_of_statement (Switch p q e s) = p
place_of_statement (Case p e s) = p
place_of_statement (Default p s) = p

abbrev pub place_of_external : External → Place
place_of_external (Declared d) = place_of_specifiers d.specifiers d.end
place_of_external (Defined ws d p ds ss) = place_of_specifiers ws p

-- ---- nodes, before the nodes that follow

pub record TreeNode : Type 0 where
  pub depth : ℕ
  pub place : Place

abbrev pub node : ℕ → Place → TreeNode
node d p = record { depth = d; place = p }

abbrev mutual
  pub nodes : Expression → ℕ → List TreeNode → List TreeNode
  nodes (Identifier n) d rest = node d n.place ∷ rest
  nodes (Number p c) d rest = node d p ∷ rest
  nodes (Literal p n) d rest = node d p ∷ rest
  nodes (Parenthesised p a) d rest = node d p ∷ nodes a (suc d) rest
  nodes (Index a p b) d rest = node d (place_of a) ∷ nodes a (suc d) (nodes b (suc d) rest)
  nodes (Call f p xs) d rest = node d (place_of f) ∷ nodes f (suc d) (nodes_all xs (suc d) rest)
  nodes (Member a p o n) d rest = node d (place_of a) ∷ nodes a (suc d) rest
  nodes (Postfix a p o) d rest = node d (place_of a) ∷ nodes a (suc d) rest
  nodes (Prefix p o a) d rest = node d p ∷ nodes a (suc d) rest
  nodes (SizeofExpression p a) d rest = node d p ∷ nodes a (suc d) rest
  nodes (SizeofType p q ws e) d rest = node d p ∷ nodes_specifiers ws (suc d) (nodes_declarator e (suc d) rest)
  nodes (Cast p ws e a) d rest = node d p ∷ nodes_specifiers ws (suc d) (nodes_declarator e (suc d) (nodes a (suc d) rest))
  nodes (Binary a p o b) d rest = node d (place_of a) ∷ nodes a (suc d) (nodes b (suc d) rest)
  nodes (Conditional a p b c) d rest = node d (place_of a) ∷ nodes a (suc d) (nodes b (suc d) (nodes c (suc d) rest))
  nodes (Assignment a p o b) d rest = node d (place_of a) ∷ nodes a (suc d) (nodes b (suc d) rest)
  nodes (Comma a b) d rest = node d (place_of a) ∷ nodes a (suc d) (nodes b (suc d) rest)

  pub nodes_all : Expressions → ℕ → List TreeNode → List TreeNode
  nodes_all no_expressions d rest = rest
  nodes_all (expression_then a xs) d rest = nodes a d (nodes_all xs d rest)

  pub nodes_specifiers : Specifiers → ℕ → List TreeNode → List TreeNode
  nodes_specifiers no_specifiers d rest = rest
  nodes_specifiers (specifier_then w ws) d rest = nodes_specifier w d (nodes_specifiers ws d rest)

  -- a type with a body is a node
  pub nodes_specifier : Specifier → ℕ → List TreeNode → List TreeNode
  nodes_specifier (Word p k) d rest = rest
  nodes_specifier (TypeName n) d rest = rest
  nodes_specifier (Structure p n) d rest = rest
  nodes_specifier (StructureBody p n q ms) d rest = node d p ∷ nodes_members ms (suc d) rest
  nodes_specifier (Enumeration p n) d rest = rest
  nodes_specifier (EnumerationBody p n q es c) d rest = node d p ∷ nodes_enumerators es (suc d) rest

  pub nodes_members : Members → ℕ → List TreeNode → List TreeNode
  nodes_members no_members d rest = rest
  nodes_members (member_then ws ds p ms) d rest = nodes_specifiers ws d (nodes_declarators ds d (nodes_members ms d rest))

  pub nodes_enumerators : Enumerators → ℕ → List TreeNode → List TreeNode
  nodes_enumerators no_enumerators d rest = rest
  nodes_enumerators (plain_then n es) d rest = nodes_enumerators es d rest
  nodes_enumerators (valued_then n p e es) d rest = nodes e d (nodes_enumerators es d rest)

  pub nodes_declarators : Declarators → ℕ → List TreeNode → List TreeNode
  nodes_declarators no_declarators d rest = rest
  nodes_declarators (declarator_then e es) d rest = nodes_declarator e d (nodes_declarators es d rest)

  pub nodes_declarator : Declarator → ℕ → List TreeNode → List TreeNode
  nodes_declarator Absent d rest = rest
  nodes_declarator (Named n) d rest = node d n.place ∷ rest
  nodes_declarator (Pointer p qs e) d rest = node d p ∷ nodes_declarator e (suc d) rest
  nodes_declarator (Grouped p e) d rest = node d p ∷ nodes_declarator e (suc d) rest
  nodes_declarator (Unsized e p) d rest = node d (place_before e p) ∷ nodes_declarator e (suc d) rest
  nodes_declarator (Sized e p a) d rest = node d (place_before e p) ∷ nodes_declarator e (suc d) (nodes a (suc d) rest)
  nodes_declarator (Empty e p) d rest = node d (place_before e p) ∷ nodes_declarator e (suc d) rest
  nodes_declarator (Void e p q) d rest = node d (place_before e p) ∷ nodes_declarator e (suc d) rest
  nodes_declarator (Function e p ps) d rest = node d (place_before e p) ∷ nodes_declarator e (suc d) (nodes_parameters ps (suc d) rest)

  pub nodes_parameters : Parameters → ℕ → List TreeNode → List TreeNode
  nodes_parameters no_parameters d rest = rest
  nodes_parameters (parameter_then ws e ps) d rest = nodes_specifiers ws d (nodes_declarator e d (nodes_parameters ps d rest))

abbrev mutual
  pub nodes_initialiser : Initialiser → ℕ → List TreeNode → List TreeNode
  nodes_initialiser (Value e) d rest = nodes e d rest
  nodes_initialiser (Listed p xs c) d rest = node d p ∷ nodes_initialisers xs (suc d) rest

  pub nodes_initialisers : Initialisers → ℕ → List TreeNode → List TreeNode
  nodes_initialisers no_initialisers d rest = rest
  nodes_initialisers (initialiser_then x xs) d rest = nodes_initialiser x d (nodes_initialisers xs d rest)

abbrev pub nodes_value : Option (Place × Initialiser) → ℕ → List TreeNode → List TreeNode
nodes_value None d rest = rest
nodes_value (Some x) d rest = nodes_initialiser x.1 d rest

abbrev pub nodes_items : List InitDeclarator → ℕ → List TreeNode → List TreeNode
nodes_items [] d rest = rest
nodes_items (i ∷ items) d rest = nodes_declarator i.declarator d (nodes_value i.initialiser d (nodes_items items d rest))

abbrev pub nodes_declaration : Declaration → ℕ → List TreeNode → List TreeNode
nodes_declaration e d rest =
    node d (place_of_specifiers e.specifiers e.end) ∷ nodes_specifiers e.specifiers (suc d) (nodes_items e.items (suc d) rest)

abbrev pub nodes_declarations : List Declaration → ℕ → List TreeNode → List TreeNode
nodes_declarations [] d rest = rest
nodes_declarations (e ∷ es) d rest = nodes_declaration e d (nodes_declarations es d rest)

abbrev pub nodes_optional : Option Expression → ℕ → List TreeNode → List TreeNode
nodes_optional None d rest = rest
nodes_optional (Some e) d rest = nodes e d rest

abbrev mutual
  pub nodes_statement : Statement → ℕ → List TreeNode → List TreeNode
  nodes_statement (Block p ds ss) d rest = node d p ∷ nodes_declarations ds (suc d) (nodes_statements ss (suc d) rest)
  nodes_statement (Nothing p) d rest = node d p ∷ rest
  nodes_statement (Evaluate e p) d rest = node d (place_of e) ∷ nodes e (suc d) rest
  nodes_statement (If p q e s) d rest = node d p ∷ nodes e (suc d) (nodes_statement s (suc d) rest)
  nodes_statement (IfElse p q e s u) d rest = node d p ∷ nodes e (suc d) (nodes_statement s (suc d) (nodes_statement u (suc d) rest))
  nodes_statement (While p q e s) d rest = node d p ∷ nodes e (suc d) (nodes_statement s (suc d) rest)
  nodes_statement (Do p s q r e u) d rest = node d p ∷ nodes_statement s (suc d) (nodes e (suc d) rest)
  nodes_statement (For p q a r b u c s) d rest =
      node d p ∷ nodes_optional a (suc d) (nodes_optional b (suc d) (nodes_optional c (suc d) (nodes_statement s (suc d) rest)))
  nodes_statement (Break p q) d rest = node d p ∷ rest
  nodes_statement (Continue p q) d rest = node d p ∷ rest
  nodes_statement (Return p e q) d rest = node d p ∷ nodes_optional e (suc d) rest
  nodes_statement (Switch p q e s) d rest = node d p ∷ nodes e (suc d) (nodes_statement s (suc d) rest)
  nodes_statement (Case p e s) d rest = node d p ∷ nodes e (suc d) (nodes_statement s (suc d) rest)
  nodes_statement (Default p s) d rest = node d p ∷ nodes_statement s (suc d) rest

  pub nodes_statements : Statements → ℕ → List TreeNode → List TreeNode
  nodes_statements no_statements d rest = rest
  nodes_statements (statement_then s ss) d rest = nodes_statement s d (nodes_statements ss d rest)

abbrev pub nodes_external : External → ℕ → List TreeNode → List TreeNode
nodes_external (Declared e) d rest = nodes_declaration e d rest
nodes_external (Defined ws e p ds ss) d rest =
    node d (place_of_specifiers ws p) ∷ nodes_specifiers ws (suc d) (nodes_declarator e (suc d) (nodes_statement (Block p ds ss) (suc d) rest))

abbrev pub nodes_file : List External → List TreeNode
nodes_file [] = []
nodes_file (x ∷ xs) = nodes_external x 1 (nodes_file xs)

-- the place of the first node deeper than this
abbrev pub first_deeper : ℕ → List TreeNode → Option Place
first_deeper limit [] = None
first_deeper limit (n ∷ ns) = if ltb limit n.depth then Some n.place else first_deeper limit ns

-- no node of a tree may be deeper
abbrev pub greatest_depth : ℕ
greatest_depth = 200

-- a definition may have at most so many tokens
abbrev pub greatest_length : ℕ
greatest_length = 8192

abbrev pub is_too_long : External → Bool
is_too_long (Declared d) = false
is_too_long (Defined ws d p ds ss) = ltb greatest_length (length (spell_external (Defined ws d p ds ss) []))

-- the place of the first definition with more tokens
abbrev pub first_too_long : List External → Option Place
first_too_long [] = None
first_too_long (x ∷ xs) = if is_too_long x then Some (place_of_external x) else first_too_long xs
