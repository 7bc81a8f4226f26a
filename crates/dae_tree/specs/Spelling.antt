-- The tokens that a tree spells, before the tokens that follow.
use Rattle.std.specs.Prelude.{Bool, true, false, List, [], ◌∷◌, Option, Some, None}
use Rattle.dae_base.specs.declared.Place.{Place}
use Rattle.dae_tree.specs.declared.words.Keyword.TheVariants as keywords
use Rattle.dae_tree.specs.declared.signs.Sign.TheVariants as signs
use Rattle.dae_tree.specs.declared.expressions.Name.{Name}
use Rattle.dae_tree.specs.Marks.{TokenMark, word, sign, name, constant, literal, part, close_paren, close_bracket, close_brace, comma, colon}
use Rattle.dae_tree.specs.Operators.{binary_sign, assignment_sign, prefix_sign, postfix_sign, member_sign}
use Rattle.dae_tree.specs.Trees.{Expression, Expressions, Specifiers, Specifier, Members, Enumerators, Declarators, Declarator, Parameters, Identifier, Number, Literal, Parenthesised, Index, Call, Member, Postfix, Prefix, SizeofExpression, SizeofType, Cast, Binary, Conditional, Assignment, Comma, no_expressions, expression_then, no_specifiers, specifier_then, Word, TypeName, Structure, StructureBody, Enumeration, EnumerationBody, no_members, member_then, no_enumerators, plain_then, valued_then, no_declarators, declarator_then, Absent, Named, Pointer, Grouped, Unsized, Sized, Empty, Void, Function, no_parameters, parameter_then}

-- a tag, or none
abbrev pub spell_tag : Option Name → List TokenMark → List TokenMark
spell_tag None rest = rest
spell_tag (Some n) rest = name n ∷ rest

-- the qualifiers behind a `*`
abbrev pub spell_qualifiers : List Place → List TokenMark → List TokenMark
spell_qualifiers [] rest = rest
spell_qualifiers (p ∷ ps) rest = word keywords.Const p ∷ spell_qualifiers ps rest

-- a comma behind the last, or none
abbrev pub spell_comma : Bool → List TokenMark → List TokenMark
spell_comma true rest = part comma ∷ rest
spell_comma false rest = rest

abbrev mutual
  pub spell : Expression → List TokenMark → List TokenMark
  spell (Identifier n) rest = name n ∷ rest
  spell (Number p c) rest = constant p c ∷ rest
  spell (Literal p n) rest = literal p n ∷ rest
  spell (Parenthesised p a) rest = sign signs.LeftParen p ∷ spell a (part close_paren ∷ rest)
  spell (Index a p b) rest = spell a (sign signs.LeftBracket p ∷ spell b (part close_bracket ∷ rest))
  spell (Call f p xs) rest = spell f (sign signs.LeftParen p ∷ spell_all xs (part close_paren ∷ rest))
  spell (Member a p o n) rest = spell a (sign (member_sign o) p ∷ name n ∷ rest)
  spell (Postfix a p o) rest = spell a (sign (postfix_sign o) p ∷ rest)
  spell (Prefix p o a) rest = sign (prefix_sign o) p ∷ spell a rest
  spell (SizeofExpression p a) rest = word keywords.Sizeof p ∷ spell a rest
  spell (SizeofType p q ws d) rest = word keywords.Sizeof p ∷ sign signs.LeftParen q ∷ spell_specifiers ws (spell_declarator d (part close_paren ∷ rest))
  spell (Cast p ws d a) rest = sign signs.LeftParen p ∷ spell_specifiers ws (spell_declarator d (part close_paren ∷ spell a rest))
  spell (Binary a p o b) rest = spell a (sign (binary_sign o) p ∷ spell b rest)
  spell (Conditional a p b c) rest = spell a (sign signs.Question p ∷ spell b (part colon ∷ spell c rest))
  spell (Assignment a p o b) rest = spell a (sign (assignment_sign o) p ∷ spell b rest)
  spell (Comma a b) rest = spell a (part comma ∷ spell b rest)

  -- the arguments of a call
  pub spell_all : Expressions → List TokenMark → List TokenMark
  spell_all no_expressions rest = rest
  spell_all (expression_then a xs) rest = spell a (spell_more xs rest)

  pub spell_more : Expressions → List TokenMark → List TokenMark
  spell_more no_expressions rest = rest
  spell_more (expression_then a xs) rest = part comma ∷ spell a (spell_more xs rest)

  pub spell_specifiers : Specifiers → List TokenMark → List TokenMark
  spell_specifiers no_specifiers rest = rest
  spell_specifiers (specifier_then w ws) rest = spell_specifier w (spell_specifiers ws rest)

  pub spell_specifier : Specifier → List TokenMark → List TokenMark
  spell_specifier (Word p k) rest = word k p ∷ rest
  spell_specifier (TypeName n) rest = name n ∷ rest
  spell_specifier (Structure p n) rest = word keywords.Struct p ∷ name n ∷ rest
  spell_specifier (StructureBody p n q ms) rest = word keywords.Struct p ∷ spell_tag n (sign signs.LeftBrace q ∷ spell_members ms (part close_brace ∷ rest))
  spell_specifier (Enumeration p n) rest = word keywords.Enum p ∷ name n ∷ rest
  spell_specifier (EnumerationBody p n q es c) rest = word keywords.Enum p ∷ spell_tag n (sign signs.LeftBrace q ∷ spell_enumerators es (spell_comma c (part close_brace ∷ rest)))

  pub spell_members : Members → List TokenMark → List TokenMark
  spell_members no_members rest = rest
  spell_members (member_then ws ds p ms) rest = spell_specifiers ws (spell_declarators ds (sign signs.Semicolon p ∷ spell_members ms rest))

  pub spell_enumerators : Enumerators → List TokenMark → List TokenMark
  spell_enumerators no_enumerators rest = rest
  spell_enumerators (plain_then n es) rest = name n ∷ spell_more_enumerators es rest
  spell_enumerators (valued_then n p e es) rest = name n ∷ sign signs.Assign p ∷ spell e (spell_more_enumerators es rest)

  pub spell_more_enumerators : Enumerators → List TokenMark → List TokenMark
  spell_more_enumerators no_enumerators rest = rest
  spell_more_enumerators (plain_then n es) rest = part comma ∷ name n ∷ spell_more_enumerators es rest
  spell_more_enumerators (valued_then n p e es) rest = part comma ∷ name n ∷ sign signs.Assign p ∷ spell e (spell_more_enumerators es rest)

  pub spell_declarators : Declarators → List TokenMark → List TokenMark
  spell_declarators no_declarators rest = rest
  spell_declarators (declarator_then d ds) rest = spell_declarator d (spell_more_declarators ds rest)

  pub spell_more_declarators : Declarators → List TokenMark → List TokenMark
  spell_more_declarators no_declarators rest = rest
  spell_more_declarators (declarator_then d ds) rest = part comma ∷ spell_declarator d (spell_more_declarators ds rest)

  pub spell_declarator : Declarator → List TokenMark → List TokenMark
  spell_declarator Absent rest = rest
  spell_declarator (Named n) rest = name n ∷ rest
  spell_declarator (Pointer p qs d) rest = sign signs.Times p ∷ spell_qualifiers qs (spell_declarator d rest)
  spell_declarator (Grouped p d) rest = sign signs.LeftParen p ∷ spell_declarator d (part close_paren ∷ rest)
  spell_declarator (Unsized d p) rest = spell_declarator d (sign signs.LeftBracket p ∷ part close_bracket ∷ rest)
  spell_declarator (Sized d p e) rest = spell_declarator d (sign signs.LeftBracket p ∷ spell e (part close_bracket ∷ rest))
  spell_declarator (Empty d p) rest = spell_declarator d (sign signs.LeftParen p ∷ part close_paren ∷ rest)
  spell_declarator (Void d p q) rest = spell_declarator d (sign signs.LeftParen p ∷ word keywords.Void q ∷ part close_paren ∷ rest)
  spell_declarator (Function d p ps) rest = spell_declarator d (sign signs.LeftParen p ∷ spell_parameters ps (part close_paren ∷ rest))

  pub spell_parameters : Parameters → List TokenMark → List TokenMark
  spell_parameters no_parameters rest = rest
  spell_parameters (parameter_then ws d ps) rest = spell_specifiers ws (spell_declarator d (spell_more_parameters ps rest))

  pub spell_more_parameters : Parameters → List TokenMark → List TokenMark
  spell_more_parameters no_parameters rest = rest
  spell_more_parameters (parameter_then ws d ps) rest = part comma ∷ spell_specifiers ws (spell_declarator d (spell_more_parameters ps rest))
