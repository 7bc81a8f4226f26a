-- A tree spells as many tokens before others as alone.
use Rattle.std.proofs.Common.{◌≡◌, ◌+◌, Bool, true, false, List, [], ◌∷◌, length, Option, Some, None, arith}
use Rattle.dae_base.specs.declared.Place.{Place}
use Rattle.dae_tree.specs.Marks.{TokenMark, close_brace, close_bracket, close_paren, colon, comma, constant, else_word, literal, name, part, sign, word}
use Rattle.dae_tree.specs.Operators.{assignment_sign, binary_sign, member_sign, postfix_sign, prefix_sign}
use Rattle.dae_tree.specs.Spelling.{spell, spell_all, spell_comma, spell_declarator, spell_declarators, spell_enumerators, spell_members, spell_more, spell_more_declarators, spell_more_enumerators, spell_more_parameters, spell_parameters, spell_qualifiers, spell_specifier, spell_specifiers, spell_tag}
use Rattle.dae_tree.specs.Statements.{spell_declaration, spell_declarations, spell_external, spell_file, spell_initialiser, spell_initialisers, spell_item, spell_items, spell_more_initialisers, spell_more_items, spell_optional, spell_statement, spell_statements, spell_test, spell_value}
use Rattle.dae_tree.specs.Trees.{Absent, Assignment, Binary, Block, Break, Call, Case, Cast, Comma, Conditional, Continue, Declaration, Declarator, Declarators, Declared, Default, Defined, Do, Empty, Enumeration, EnumerationBody, Enumerators, Evaluate, Expression, Expressions, External, For, Function, Grouped, Identifier, If, IfElse, Index, Initialiser, Initialisers, InitDeclarator, Listed, Literal, Member, Members, Named, Nothing, Number, Parameters, Parenthesised, Pointer, Postfix, Prefix, Return, Sized, SizeofExpression, SizeofType, Specifier, Specifiers, Statement, Statements, Structure, StructureBody, Switch, TypeName, Unsized, Value, Void, While, Word, declarator_then, expression_then, initialiser_then, member_then, no_declarators, no_enumerators, no_expressions, no_initialisers, no_members, no_parameters, no_specifiers, no_statements, parameter_then, plain_then, specifier_then, statement_then, valued_then}
use Rattle.dae_tree.specs.declared.expressions.Name.{Name}
use Rattle.dae_tree.specs.declared.signs.Sign.TheVariants as signs
use Rattle.dae_tree.specs.declared.words.Keyword.TheVariants as keywords

pub record Adds (N : List TokenMark → List TokenMark) : Type 0 where
  pub law : (rest : List TokenMark) → length (N rest) ≡ length (N []) + length rest

adds_none : Adds (λ rest. rest)
adds_none = record { law = λ rest. omega arith }

adds_mark : {N : List TokenMark → List TokenMark} (m : TokenMark) → Adds N → Adds (λ rest. m ∷ N rest)
adds_mark m h = record { law = λ rest. omega (arith, h.law rest) }

adds_both : {N M : List TokenMark → List TokenMark} → Adds N → Adds M → Adds (λ rest. N (M rest))
adds_both {N} {M} h k = record { law = λ rest. omega (arith, h.law (M rest), h.law (M []), k.law rest) }

pub adds_tag : (x : Option Name) → Adds (spell_tag x)
adds_tag None = adds_none
adds_tag (Some n) = adds_mark (name n) adds_none

pub adds_qualifiers : (x : List Place) → Adds (spell_qualifiers x)
adds_qualifiers [] = adds_none
adds_qualifiers (p ∷ ps) = adds_mark (word keywords.Const p) (adds_qualifiers ps)

pub adds_comma : (x : Bool) → Adds (spell_comma x)
adds_comma true = adds_mark (part comma) adds_none
adds_comma false = adds_none

mutual
  pub adds : (x : Expression) → Adds (spell x)
  adds (Identifier n) = adds_mark (name n) adds_none
  adds (Number p c) = adds_mark (constant p c) adds_none
  adds (Literal p n) = adds_mark (literal p n) adds_none
  adds (Parenthesised p a) = adds_mark (sign signs.LeftParen p) (adds_both (adds a) (adds_mark (part close_paren) adds_none))
  adds (Index a p b) = adds_both (adds a) (adds_mark (sign signs.LeftBracket p) (adds_both (adds b) (adds_mark (part close_bracket) adds_none)))
  adds (Call f p xs) = adds_both (adds f) (adds_mark (sign signs.LeftParen p) (adds_both (adds_all xs) (adds_mark (part close_paren) adds_none)))
  adds (Member a p o n) = adds_both (adds a) (adds_mark (sign (member_sign o) p) (adds_mark (name n) adds_none))
  adds (Postfix a p o) = adds_both (adds a) (adds_mark (sign (postfix_sign o) p) adds_none)
  adds (Prefix p o a) = adds_mark (sign (prefix_sign o) p) (adds a)
  adds (SizeofExpression p a) = adds_mark (word keywords.Sizeof p) (adds a)
  adds (SizeofType p q ws d) = adds_mark (word keywords.Sizeof p) (adds_mark (sign signs.LeftParen q) (adds_both (adds_specifiers ws) (adds_both (adds_declarator d) (adds_mark (part close_paren) adds_none))))
  adds (Cast p ws d a) = adds_mark (sign signs.LeftParen p) (adds_both (adds_specifiers ws) (adds_both (adds_declarator d) (adds_mark (part close_paren) (adds a))))
  adds (Binary a p o b) = adds_both (adds a) (adds_mark (sign (binary_sign o) p) (adds b))
  adds (Conditional a p b c) = adds_both (adds a) (adds_mark (sign signs.Question p) (adds_both (adds b) (adds_mark (part colon) (adds c))))
  adds (Assignment a p o b) = adds_both (adds a) (adds_mark (sign (assignment_sign o) p) (adds b))
  adds (Comma a b) = adds_both (adds a) (adds_mark (part comma) (adds b))

  pub adds_all : (x : Expressions) → Adds (spell_all x)
  adds_all no_expressions = adds_none
  adds_all (expression_then a xs) = adds_both (adds a) (adds_more xs)

  pub adds_more : (x : Expressions) → Adds (spell_more x)
  adds_more no_expressions = adds_none
  adds_more (expression_then a xs) = adds_mark (part comma) (adds_both (adds a) (adds_more xs))

  pub adds_specifiers : (x : Specifiers) → Adds (spell_specifiers x)
  adds_specifiers no_specifiers = adds_none
  adds_specifiers (specifier_then w ws) = adds_both (adds_specifier w) (adds_specifiers ws)

  pub adds_specifier : (x : Specifier) → Adds (spell_specifier x)
  adds_specifier (Word p k) = adds_mark (word k p) adds_none
  adds_specifier (TypeName n) = adds_mark (name n) adds_none
  adds_specifier (Structure p n) = adds_mark (word keywords.Struct p) (adds_mark (name n) adds_none)
  adds_specifier (StructureBody p n q ms) = adds_mark (word keywords.Struct p) (adds_both (adds_tag n) (adds_mark (sign signs.LeftBrace q) (adds_both (adds_members ms) (adds_mark (part close_brace) adds_none))))
  adds_specifier (Enumeration p n) = adds_mark (word keywords.Enum p) (adds_mark (name n) adds_none)
  adds_specifier (EnumerationBody p n q es c) = adds_mark (word keywords.Enum p) (adds_both (adds_tag n) (adds_mark (sign signs.LeftBrace q) (adds_both (adds_enumerators es) (adds_both (adds_comma c) (adds_mark (part close_brace) adds_none)))))

  pub adds_members : (x : Members) → Adds (spell_members x)
  adds_members no_members = adds_none
  adds_members (member_then ws ds p ms) = adds_both (adds_specifiers ws) (adds_both (adds_declarators ds) (adds_mark (sign signs.Semicolon p) (adds_members ms)))

  pub adds_enumerators : (x : Enumerators) → Adds (spell_enumerators x)
  adds_enumerators no_enumerators = adds_none
  adds_enumerators (plain_then n es) = adds_mark (name n) (adds_more_enumerators es)
  adds_enumerators (valued_then n p e es) = adds_mark (name n) (adds_mark (sign signs.Assign p) (adds_both (adds e) (adds_more_enumerators es)))

  pub adds_more_enumerators : (x : Enumerators) → Adds (spell_more_enumerators x)
  adds_more_enumerators no_enumerators = adds_none
  adds_more_enumerators (plain_then n es) = adds_mark (part comma) (adds_mark (name n) (adds_more_enumerators es))
  adds_more_enumerators (valued_then n p e es) = adds_mark (part comma) (adds_mark (name n) (adds_mark (sign signs.Assign p) (adds_both (adds e) (adds_more_enumerators es))))

  pub adds_declarators : (x : Declarators) → Adds (spell_declarators x)
  adds_declarators no_declarators = adds_none
  adds_declarators (declarator_then d ds) = adds_both (adds_declarator d) (adds_more_declarators ds)

  pub adds_more_declarators : (x : Declarators) → Adds (spell_more_declarators x)
  adds_more_declarators no_declarators = adds_none
  adds_more_declarators (declarator_then d ds) = adds_mark (part comma) (adds_both (adds_declarator d) (adds_more_declarators ds))

  pub adds_declarator : (x : Declarator) → Adds (spell_declarator x)
  adds_declarator Absent = adds_none
  adds_declarator (Named n) = adds_mark (name n) adds_none
  adds_declarator (Pointer p qs d) = adds_mark (sign signs.Times p) (adds_both (adds_qualifiers qs) (adds_declarator d))
  adds_declarator (Grouped p d) = adds_mark (sign signs.LeftParen p) (adds_both (adds_declarator d) (adds_mark (part close_paren) adds_none))
  adds_declarator (Unsized d p) = adds_both (adds_declarator d) (adds_mark (sign signs.LeftBracket p) (adds_mark (part close_bracket) adds_none))
  adds_declarator (Sized d p e) = adds_both (adds_declarator d) (adds_mark (sign signs.LeftBracket p) (adds_both (adds e) (adds_mark (part close_bracket) adds_none)))
  adds_declarator (Empty d p) = adds_both (adds_declarator d) (adds_mark (sign signs.LeftParen p) (adds_mark (part close_paren) adds_none))
  adds_declarator (Void d p q) = adds_both (adds_declarator d) (adds_mark (sign signs.LeftParen p) (adds_mark (word keywords.Void q) (adds_mark (part close_paren) adds_none)))
  adds_declarator (Function d p ps) = adds_both (adds_declarator d) (adds_mark (sign signs.LeftParen p) (adds_both (adds_parameters ps) (adds_mark (part close_paren) adds_none)))

  pub adds_parameters : (x : Parameters) → Adds (spell_parameters x)
  adds_parameters no_parameters = adds_none
  adds_parameters (parameter_then ws d ps) = adds_both (adds_specifiers ws) (adds_both (adds_declarator d) (adds_more_parameters ps))

  pub adds_more_parameters : (x : Parameters) → Adds (spell_more_parameters x)
  adds_more_parameters no_parameters = adds_none
  adds_more_parameters (parameter_then ws d ps) = adds_mark (part comma) (adds_both (adds_specifiers ws) (adds_both (adds_declarator d) (adds_more_parameters ps)))

mutual
  pub adds_initialiser : (x : Initialiser) → Adds (spell_initialiser x)
  adds_initialiser (Value e) = adds e
  adds_initialiser (Listed p xs c) = adds_mark (sign signs.LeftBrace p) (adds_both (adds_initialisers xs) (adds_both (adds_comma c) (adds_mark (part close_brace) adds_none)))

  pub adds_initialisers : (x : Initialisers) → Adds (spell_initialisers x)
  adds_initialisers no_initialisers = adds_none
  adds_initialisers (initialiser_then x xs) = adds_both (adds_initialiser x) (adds_more_initialisers xs)

  pub adds_more_initialisers : (x : Initialisers) → Adds (spell_more_initialisers x)
  adds_more_initialisers no_initialisers = adds_none
  adds_more_initialisers (initialiser_then x xs) = adds_mark (part comma) (adds_both (adds_initialiser x) (adds_more_initialisers xs))

pub adds_value : (x : Option (Place × Initialiser)) → Adds (spell_value x)
adds_value None = adds_none
adds_value (Some x) = adds_mark (sign signs.Assign x.0) (adds_initialiser x.1)

pub adds_item : (x : InitDeclarator) → Adds (spell_item x)
adds_item i = adds_both (adds_declarator i.declarator) (adds_value i.initialiser)

pub adds_more_items : (x : List InitDeclarator) → Adds (spell_more_items x)
adds_more_items [] = adds_none
adds_more_items (i ∷ items) = adds_mark (part comma) (adds_both (adds_item i) (adds_more_items items))

pub adds_items : (x : List InitDeclarator) → Adds (spell_items x)
adds_items [] = adds_none
adds_items (i ∷ items) = adds_both (adds_item i) (adds_more_items items)

pub adds_declaration : (x : Declaration) → Adds (spell_declaration x)
adds_declaration d = adds_both (adds_specifiers d.specifiers) (adds_both (adds_items d.items) (adds_mark (sign signs.Semicolon d.end) adds_none))

pub adds_declarations : (x : List Declaration) → Adds (spell_declarations x)
adds_declarations [] = adds_none
adds_declarations (d ∷ ds) = adds_both (adds_declaration d) (adds_declarations ds)

pub adds_optional : (x : Option Expression) → Adds (spell_optional x)
adds_optional None = adds_none
adds_optional (Some e) = adds e

pub adds_test : (x : Place) (y : Expression) → Adds (spell_test x y)
adds_test p e = adds_mark (sign signs.LeftParen p) (adds_both (adds e) (adds_mark (part close_paren) adds_none))

mutual
  pub adds_statement : (x : Statement) → Adds (spell_statement x)
  adds_statement (Block p ds ss) = adds_mark (sign signs.LeftBrace p) (adds_both (adds_declarations ds) (adds_both (adds_statements ss) (adds_mark (part close_brace) adds_none)))
  adds_statement (Nothing p) = adds_mark (sign signs.Semicolon p) adds_none
  adds_statement (Evaluate e p) = adds_both (adds e) (adds_mark (sign signs.Semicolon p) adds_none)
  adds_statement (If p q e s) = adds_mark (word keywords.If p) (adds_both (adds_test q e) (adds_statement s))
  adds_statement (IfElse p q e s u) = adds_mark (word keywords.If p) (adds_both (adds_test q e) (adds_both (adds_statement s) (adds_mark (part else_word) (adds_statement u))))
  adds_statement (While p q e s) = adds_mark (word keywords.While p) (adds_both (adds_test q e) (adds_statement s))
  adds_statement (Do p s q r e u) = adds_mark (word keywords.Do p) (adds_both (adds_statement s) (adds_mark (word keywords.While q) (adds_both (adds_test r e) (adds_mark (sign signs.Semicolon u) adds_none))))
  adds_statement (For p q a r b u c s) = adds_mark (word keywords.For p) (adds_mark (sign signs.LeftParen q) (adds_both (adds_optional a) (adds_mark (sign signs.Semicolon r) (adds_both (adds_optional b) (adds_mark (sign signs.Semicolon u) (adds_both (adds_optional c) (adds_mark (part close_paren) (adds_statement s))))))))
  adds_statement (Break p q) = adds_mark (word keywords.Break p) (adds_mark (sign signs.Semicolon q) adds_none)
  adds_statement (Continue p q) = adds_mark (word keywords.Continue p) (adds_mark (sign signs.Semicolon q) adds_none)
  adds_statement (Return p e q) = adds_mark (word keywords.Return p) (adds_both (adds_optional e) (adds_mark (sign signs.Semicolon q) adds_none))
  adds_statement (Switch p q e s) = adds_mark (word keywords.Switch p) (adds_both (adds_test q e) (adds_statement s))
  adds_statement (Case p e s) = adds_mark (word keywords.Case p) (adds_both (adds e) (adds_mark (part colon) (adds_statement s)))
  adds_statement (Default p s) = adds_mark (word keywords.Default p) (adds_mark (part colon) (adds_statement s))

  pub adds_statements : (x : Statements) → Adds (spell_statements x)
  adds_statements no_statements = adds_none
  adds_statements (statement_then s ss) = adds_both (adds_statement s) (adds_statements ss)

pub adds_external : (x : External) → Adds (spell_external x)
adds_external (Declared d) = adds_declaration d
adds_external (Defined ws d p ds ss) = adds_both (adds_specifiers ws) (adds_both (adds_declarator d) (adds_statement (Block p ds ss)))

pub adds_file : (x : List External) → Adds (spell_file x)
adds_file [] = adds_none
adds_file (x ∷ xs) = adds_both (adds_external x) (adds_file xs)
