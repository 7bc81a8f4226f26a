-- The first node deeper than a limit is the first at the depth behind it.
use Rattle.std.proofs.Common.{◌≡◌, ℕ, zero, suc, ◌+◌, ◌≤◌, ◌<◌, ltb, true, false, List, [], ◌∷◌, Option, Some, None, refl, ap, ◌∙◌, arith}
use Rattle.dae_base.specs.declared.Place.{Place}
use Rattle.dae_tree.specs.Depth.{TreeNode, node, place_of, place_before, place_of_specifiers, nodes, nodes_all, nodes_specifiers, nodes_specifier, nodes_members, nodes_enumerators, nodes_declarators, nodes_declarator, nodes_parameters, nodes_initialiser, nodes_initialisers, nodes_value, nodes_items, nodes_declaration, nodes_declarations, nodes_optional, nodes_statement, nodes_statements, nodes_external, nodes_file, first_deeper}
use Rattle.dae_tree.specs.Trees.{Expression, Expressions, Specifiers, Specifier, Members, Enumerators, Declarators, Declarator, Parameters, Initialiser, Initialisers, InitDeclarator, Declaration, Statement, Statements, External, Identifier, Number, Literal, Parenthesised, Index, Call, Member, Postfix, Prefix, SizeofExpression, SizeofType, Cast, Binary, Conditional, Assignment, Comma, no_expressions, expression_then, no_specifiers, specifier_then, Word, TypeName, Structure, StructureBody, Enumeration, EnumerationBody, no_members, member_then, no_enumerators, plain_then, valued_then, no_declarators, declarator_then, Absent, Named, Pointer, Grouped, Unsized, Sized, Empty, Void, Function, no_parameters, parameter_then, Value, Listed, no_initialisers, initialiser_then, Block, Nothing, Evaluate, If, IfElse, While, Do, For, Break, Continue, Return, Switch, Case, Default, no_statements, statement_then, Declared, Defined}
use Rattle.dae_parse_grammar.specs.FirstPlaces.{Places, or_else, nowhere, both, over, firsts, firsts_all, firsts_specifiers, firsts_specifier, firsts_members, firsts_enumerators, firsts_declarators, firsts_declarator, firsts_parameters, firsts_initialiser, firsts_initialisers, firsts_value, firsts_items, firsts_declaration, firsts_declarations, firsts_optional, firsts_statement, firsts_statements, firsts_external, firsts_file}

-- nodes before others, and the first of them at each depth
pub record Says (N : ℕ → List TreeNode → List TreeNode) (f : Places) : Type 0 where
  pub law : (limit d i : ℕ) (rest : List TreeNode) → suc limit ≡ d + i → first_deeper limit (N d rest) ≡ or_else (f i) (first_deeper limit rest)

pub or_else_along : (x y z : Option Place) → or_else x (or_else y z) ≡ or_else (or_else x y) z
or_else_along None y z = refl
or_else_along (Some x) y z = refl

ltb_true : (a b : ℕ) → a < b → ltb a b ≡ true
ltb_true a b h = grind arith

ltb_false : (a b : ℕ) → b ≤ a → ltb a b ≡ false
ltb_false a b h = grind arith

says_none : Says (λ d rest. rest) nowhere
says_none = record { law = λ limit d i rest e. refl }

says_both : {N M : ℕ → List TreeNode → List TreeNode} {f g : Places} → Says N f → Says M g → Says (λ d rest. N d (M d rest)) (both f g)
says_both {N} {M} {f} {g} h k = record {
  law = λ limit d i rest e.
      h.law limit d i (M d rest) e ∙ ap (or_else (f i)) (k.law limit d i rest e) ∙ or_else_along (f i) (g i) (first_deeper limit rest);
}

over_law : (N : ℕ → List TreeNode → List TreeNode) (f : Places) (p : Place) → Says N f → (limit d i : ℕ) (rest : List TreeNode) → suc limit ≡ d + i
    → first_deeper limit (node d p ∷ N (suc d) rest) ≡ or_else (over p f i) (first_deeper limit rest)
over_law N f p h limit d zero rest e = rw (ltb_true limit d (omega arith)) refl
over_law N f p h limit d (suc i) rest e = rw (ltb_false limit d (omega arith)) (h.law limit (suc d) i rest (omega arith))

says_over : {N : ℕ → List TreeNode → List TreeNode} {f : Places} (p : Place) → Says N f → Says (λ d rest. node d p ∷ N (suc d) rest) (over p f)
says_over {N} {f} p h = record { law = over_law N f p h }

mutual
  pub says : (x : Expression) → Says (nodes x) (firsts x)
  says (Identifier n) = says_over n.place says_none
  says (Number p c) = says_over p says_none
  says (Literal p n) = says_over p says_none
  says (Parenthesised p a) = says_over p (says a)
  says (Index a p b) = says_over (place_of a) (says_both (says a) (says b))
  says (Call f p xs) = says_over (place_of f) (says_both (says f) (says_all xs))
  says (Member a p o n) = says_over (place_of a) (says a)
  says (Postfix a p o) = says_over (place_of a) (says a)
  says (Prefix p o a) = says_over p (says a)
  says (SizeofExpression p a) = says_over p (says a)
  says (SizeofType p q ws e) = says_over p (says_both (says_specifiers ws) (says_declarator e))
  says (Cast p ws e a) = says_over p (says_both (says_specifiers ws) (says_both (says_declarator e) (says a)))
  says (Binary a p o b) = says_over (place_of a) (says_both (says a) (says b))
  says (Conditional a p b c) = says_over (place_of a) (says_both (says a) (says_both (says b) (says c)))
  says (Assignment a p o b) = says_over (place_of a) (says_both (says a) (says b))
  says (Comma a b) = says_over (place_of a) (says_both (says a) (says b))

  pub says_all : (x : Expressions) → Says (nodes_all x) (firsts_all x)
  says_all no_expressions = says_none
  says_all (expression_then a xs) = says_both (says a) (says_all xs)

  pub says_specifiers : (x : Specifiers) → Says (nodes_specifiers x) (firsts_specifiers x)
  says_specifiers no_specifiers = says_none
  says_specifiers (specifier_then w ws) = says_both (says_specifier w) (says_specifiers ws)

  pub says_specifier : (x : Specifier) → Says (nodes_specifier x) (firsts_specifier x)
  says_specifier (Word p k) = says_none
  says_specifier (TypeName n) = says_none
  says_specifier (Structure p n) = says_none
  says_specifier (StructureBody p n q ms) = says_over p (says_members ms)
  says_specifier (Enumeration p n) = says_none
  says_specifier (EnumerationBody p n q es c) = says_over p (says_enumerators es)

  pub says_members : (x : Members) → Says (nodes_members x) (firsts_members x)
  says_members no_members = says_none
  says_members (member_then ws ds p ms) = says_both (says_specifiers ws) (says_both (says_declarators ds) (says_members ms))

  pub says_enumerators : (x : Enumerators) → Says (nodes_enumerators x) (firsts_enumerators x)
  says_enumerators no_enumerators = says_none
  says_enumerators (plain_then n es) = says_enumerators es
  says_enumerators (valued_then n p e es) = says_both (says e) (says_enumerators es)

  pub says_declarators : (x : Declarators) → Says (nodes_declarators x) (firsts_declarators x)
  says_declarators no_declarators = says_none
  says_declarators (declarator_then e es) = says_both (says_declarator e) (says_declarators es)

  pub says_declarator : (x : Declarator) → Says (nodes_declarator x) (firsts_declarator x)
  says_declarator Absent = says_none
  says_declarator (Named n) = says_over n.place says_none
  says_declarator (Pointer p qs e) = says_over p (says_declarator e)
  says_declarator (Grouped p e) = says_over p (says_declarator e)
  says_declarator (Unsized e p) = says_over (place_before e p) (says_declarator e)
  says_declarator (Sized e p a) = says_over (place_before e p) (says_both (says_declarator e) (says a))
  says_declarator (Empty e p) = says_over (place_before e p) (says_declarator e)
  says_declarator (Void e p q) = says_over (place_before e p) (says_declarator e)
  says_declarator (Function e p ps) = says_over (place_before e p) (says_both (says_declarator e) (says_parameters ps))

  pub says_parameters : (x : Parameters) → Says (nodes_parameters x) (firsts_parameters x)
  says_parameters no_parameters = says_none
  says_parameters (parameter_then ws e ps) = says_both (says_specifiers ws) (says_both (says_declarator e) (says_parameters ps))

mutual
  pub says_initialiser : (x : Initialiser) → Says (nodes_initialiser x) (firsts_initialiser x)
  says_initialiser (Value e) = says e
  says_initialiser (Listed p xs c) = says_over p (says_initialisers xs)

  pub says_initialisers : (x : Initialisers) → Says (nodes_initialisers x) (firsts_initialisers x)
  says_initialisers no_initialisers = says_none
  says_initialisers (initialiser_then x xs) = says_both (says_initialiser x) (says_initialisers xs)

pub says_value : (x : Option (Place × Initialiser)) → Says (nodes_value x) (firsts_value x)
says_value None = says_none
says_value (Some x) = says_initialiser x.1

pub says_items : (x : List InitDeclarator) → Says (nodes_items x) (firsts_items x)
says_items [] = says_none
says_items (i ∷ items) = says_both (says_declarator i.declarator) (says_both (says_value i.initialiser) (says_items items))

pub says_declaration : (x : Declaration) → Says (nodes_declaration x) (firsts_declaration x)
says_declaration e = says_over (place_of_specifiers e.specifiers e.end) (says_both (says_specifiers e.specifiers) (says_items e.items))

pub says_declarations : (x : List Declaration) → Says (nodes_declarations x) (firsts_declarations x)
says_declarations [] = says_none
says_declarations (e ∷ es) = says_both (says_declaration e) (says_declarations es)

pub says_optional : (x : Option Expression) → Says (nodes_optional x) (firsts_optional x)
says_optional None = says_none
says_optional (Some e) = says e

mutual
  pub says_statement : (x : Statement) → Says (nodes_statement x) (firsts_statement x)
  says_statement (Block p ds ss) = says_over p (says_both (says_declarations ds) (says_statements ss))
  says_statement (Nothing p) = says_over p says_none
  says_statement (Evaluate e p) = says_over (place_of e) (says e)
  says_statement (If p q e s) = says_over p (says_both (says e) (says_statement s))
  says_statement (IfElse p q e s u) = says_over p (says_both (says e) (says_both (says_statement s) (says_statement u)))
  says_statement (While p q e s) = says_over p (says_both (says e) (says_statement s))
  says_statement (Do p s q r e u) = says_over p (says_both (says_statement s) (says e))
  says_statement (For p q a r b u c s) = says_over p (says_both (says_optional a) (says_both (says_optional b) (says_both (says_optional c) (says_statement s))))
  says_statement (Break p q) = says_over p says_none
  says_statement (Continue p q) = says_over p says_none
  says_statement (Return p e q) = says_over p (says_optional e)
  says_statement (Switch p q e s) = says_over p (says_both (says e) (says_statement s))
  says_statement (Case p e s) = says_over p (says_both (says e) (says_statement s))
  says_statement (Default p s) = says_over p (says_statement s)

  pub says_statements : (x : Statements) → Says (nodes_statements x) (firsts_statements x)
  says_statements no_statements = says_none
  says_statements (statement_then s ss) = says_both (says_statement s) (says_statements ss)

pub says_external : (x : External) → Says (nodes_external x) (firsts_external x)
says_external (Declared e) = says_declaration e
says_external (Defined ws e p ds ss) = says_over (place_of_specifiers ws p) (says_both (says_specifiers ws) (says_both (says_declarator e) (says_statement (Block p ds ss))))

pub says_file : (xs : List External) (limit : ℕ) → first_deeper limit (nodes_file xs) ≡ firsts_file xs limit
says_file [] limit = refl
says_file (x ∷ xs) limit = (says_external x).law limit 1 limit (nodes_file xs) (omega arith) ∙ ap (or_else (firsts_external x limit)) (says_file xs limit)
