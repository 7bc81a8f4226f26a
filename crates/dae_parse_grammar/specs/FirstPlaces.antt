-- The place of the first node at each depth of a tree, counted from the tree itself, which has depth 0.
use Rattle.std.specs.Prelude.{ℕ, zero, suc, List, [], ◌∷◌, Option, Some, None}
use Rattle.dae_base.specs.declared.Place.{Place}
use Rattle.dae_tree.specs.Depth.{place_of, place_before, place_of_specifiers}
use Rattle.dae_tree.specs.Trees.{Expression, Expressions, Specifiers, Specifier, Members, Enumerators, Declarators, Declarator, Parameters, Initialiser, Initialisers, InitDeclarator, Declaration, Statement, Statements, External, Identifier, Number, Literal, Parenthesised, Index, Call, Member, Postfix, Prefix, SizeofExpression, SizeofType, Cast, Binary, Conditional, Assignment, Comma, no_expressions, expression_then, no_specifiers, specifier_then, Word, TypeName, Structure, StructureBody, Enumeration, EnumerationBody, no_members, member_then, no_enumerators, plain_then, valued_then, no_declarators, declarator_then, Absent, Named, Pointer, Grouped, Unsized, Sized, Empty, Void, Function, no_parameters, parameter_then, Value, Listed, no_initialisers, initialiser_then, Block, Nothing, Evaluate, If, IfElse, While, Do, For, Break, Continue, Return, Switch, Case, Default, no_statements, statement_then, Declared, Defined}

abbrev pub Places : Type 0
Places = ℕ → Option Place

abbrev pub or_else : Option Place → Option Place → Option Place
or_else None y = y
or_else (Some x) y = Some x

abbrev pub nowhere : Places
nowhere i = None

-- of these parts, or else of those
abbrev pub both : Places → Places → Places
both f g i = or_else (f i) (g i)

-- of a node over these parts
abbrev pub over : Place → Places → Places
over p f zero = Some p
over p f (suc i) = f i

abbrev mutual
  pub firsts : Expression → Places
  firsts (Identifier n) = over n.place nowhere
  firsts (Number p c) = over p nowhere
  firsts (Literal p n) = over p nowhere
  firsts (Parenthesised p a) = over p (firsts a)
  firsts (Index a p b) = over (place_of a) (both (firsts a) (firsts b))
  firsts (Call f p xs) = over (place_of f) (both (firsts f) (firsts_all xs))
  firsts (Member a p o n) = over (place_of a) (firsts a)
  firsts (Postfix a p o) = over (place_of a) (firsts a)
  firsts (Prefix p o a) = over p (firsts a)
  firsts (SizeofExpression p a) = over p (firsts a)
  firsts (SizeofType p q ws e) = over p (both (firsts_specifiers ws) (firsts_declarator e))
  firsts (Cast p ws e a) = over p (both (firsts_specifiers ws) (both (firsts_declarator e) (firsts a)))
  firsts (Binary a p o b) = over (place_of a) (both (firsts a) (firsts b))
  firsts (Conditional a p b c) = over (place_of a) (both (firsts a) (both (firsts b) (firsts c)))
  firsts (Assignment a p o b) = over (place_of a) (both (firsts a) (firsts b))
  firsts (Comma a b) = over (place_of a) (both (firsts a) (firsts b))

  pub firsts_all : Expressions → Places
  firsts_all no_expressions = nowhere
  firsts_all (expression_then a xs) = both (firsts a) (firsts_all xs)

  pub firsts_specifiers : Specifiers → Places
  firsts_specifiers no_specifiers = nowhere
  firsts_specifiers (specifier_then w ws) = both (firsts_specifier w) (firsts_specifiers ws)

  pub firsts_specifier : Specifier → Places
  firsts_specifier (Word p k) = nowhere
  firsts_specifier (TypeName n) = nowhere
  firsts_specifier (Structure p n) = nowhere
  firsts_specifier (StructureBody p n q ms) = over p (firsts_members ms)
  firsts_specifier (Enumeration p n) = nowhere
  firsts_specifier (EnumerationBody p n q es c) = over p (firsts_enumerators es)

  pub firsts_members : Members → Places
  firsts_members no_members = nowhere
  firsts_members (member_then ws ds p ms) = both (firsts_specifiers ws) (both (firsts_declarators ds) (firsts_members ms))

  pub firsts_enumerators : Enumerators → Places
  firsts_enumerators no_enumerators = nowhere
  firsts_enumerators (plain_then n es) = firsts_enumerators es
  firsts_enumerators (valued_then n p e es) = both (firsts e) (firsts_enumerators es)

  pub firsts_declarators : Declarators → Places
  firsts_declarators no_declarators = nowhere
  firsts_declarators (declarator_then e es) = both (firsts_declarator e) (firsts_declarators es)

  pub firsts_declarator : Declarator → Places
  firsts_declarator Absent = nowhere
  firsts_declarator (Named n) = over n.place nowhere
  firsts_declarator (Pointer p qs e) = over p (firsts_declarator e)
  firsts_declarator (Grouped p e) = over p (firsts_declarator e)
  firsts_declarator (Unsized e p) = over (place_before e p) (firsts_declarator e)
  firsts_declarator (Sized e p a) = over (place_before e p) (both (firsts_declarator e) (firsts a))
  firsts_declarator (Empty e p) = over (place_before e p) (firsts_declarator e)
  firsts_declarator (Void e p q) = over (place_before e p) (firsts_declarator e)
  firsts_declarator (Function e p ps) = over (place_before e p) (both (firsts_declarator e) (firsts_parameters ps))

  pub firsts_parameters : Parameters → Places
  firsts_parameters no_parameters = nowhere
  firsts_parameters (parameter_then ws e ps) = both (firsts_specifiers ws) (both (firsts_declarator e) (firsts_parameters ps))

abbrev mutual
  pub firsts_initialiser : Initialiser → Places
  firsts_initialiser (Value e) = firsts e
  firsts_initialiser (Listed p xs c) = over p (firsts_initialisers xs)

  pub firsts_initialisers : Initialisers → Places
  firsts_initialisers no_initialisers = nowhere
  firsts_initialisers (initialiser_then x xs) = both (firsts_initialiser x) (firsts_initialisers xs)

abbrev pub firsts_value : Option (Place × Initialiser) → Places
firsts_value None = nowhere
firsts_value (Some x) = firsts_initialiser x.1

abbrev pub firsts_items : List InitDeclarator → Places
firsts_items [] = nowhere
firsts_items (i ∷ items) = both (firsts_declarator i.declarator) (both (firsts_value i.initialiser) (firsts_items items))

abbrev pub firsts_declaration : Declaration → Places
firsts_declaration e = over (place_of_specifiers e.specifiers e.end) (both (firsts_specifiers e.specifiers) (firsts_items e.items))

abbrev pub firsts_declarations : List Declaration → Places
firsts_declarations [] = nowhere
firsts_declarations (e ∷ es) = both (firsts_declaration e) (firsts_declarations es)

abbrev pub firsts_optional : Option Expression → Places
firsts_optional None = nowhere
firsts_optional (Some e) = firsts e

abbrev mutual
  pub firsts_statement : Statement → Places
  firsts_statement (Block p ds ss) = over p (both (firsts_declarations ds) (firsts_statements ss))
  firsts_statement (Nothing p) = over p nowhere
  firsts_statement (Evaluate e p) = over (place_of e) (firsts e)
  firsts_statement (If p q e s) = over p (both (firsts e) (firsts_statement s))
  firsts_statement (IfElse p q e s u) = over p (both (firsts e) (both (firsts_statement s) (firsts_statement u)))
  firsts_statement (While p q e s) = over p (both (firsts e) (firsts_statement s))
  firsts_statement (Do p s q r e u) = over p (both (firsts_statement s) (firsts e))
  firsts_statement (For p q a r b u c s) = over p (both (firsts_optional a) (both (firsts_optional b) (both (firsts_optional c) (firsts_statement s))))
  firsts_statement (Break p q) = over p nowhere
  firsts_statement (Continue p q) = over p nowhere
  firsts_statement (Return p e q) = over p (firsts_optional e)
  firsts_statement (Switch p q e s) = over p (both (firsts e) (firsts_statement s))
  firsts_statement (Case p e s) = over p (both (firsts e) (firsts_statement s))
  firsts_statement (Default p s) = over p (firsts_statement s)

  pub firsts_statements : Statements → Places
  firsts_statements no_statements = nowhere
  firsts_statements (statement_then s ss) = both (firsts_statement s) (firsts_statements ss)

abbrev pub firsts_external : External → Places
firsts_external (Declared e) = firsts_declaration e
firsts_external (Defined ws e p ds ss) =
    over (place_of_specifiers ws p) (both (firsts_specifiers ws) (both (firsts_declarator e) (firsts_statement (Block p ds ss))))

-- the first of these externals that has a node this much below it
abbrev pub firsts_file : List External → Places
firsts_file [] = nowhere
firsts_file (x ∷ xs) = both (firsts_external x) (firsts_file xs)
