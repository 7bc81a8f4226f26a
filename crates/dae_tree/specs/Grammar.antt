-- The grammar: which trees are of it, where the tokens are those that a tree spells. Each part is read with the names that
-- are in scope where it stands (C90 6.3, 6.5).
use Rattle.std.specs.Prelude.{◌≡◌, ℕ, ◌≤◌, true, false, Option, Some, None}
use Rattle.dae_base.specs.declared.Place.{Place}
use Rattle.dae_tree.specs.declared.words.Keyword.TheVariants as keywords
use Rattle.dae_tree.specs.declared.expressions.Name.{Name}
use Rattle.dae_tree.specs.Operators.{under, strength, operand_level}
use Rattle.dae_tree.specs.declared.seen.Seen.{Seen}
use Rattle.dae_tree.specs.Words.{nothing_seen, has_type, admits, seen_after, is_tagged_word}
use Rattle.dae_tree.specs.Names.{Names, is_type, after, after_specifiers, after_specifier, after_declarators, after_declarator, after_parameter, with_name}
use Rattle.dae_tree.specs.Trees.{Expression, Expressions, Specifiers, Specifier, Members, Enumerators, Declarators, Declarator, Parameters, Identifier, Number, Literal, Parenthesised, Index, Call, Member, Postfix, Prefix, SizeofExpression, SizeofType, Cast, Binary, Conditional, Assignment, Comma, no_expressions, expression_then, no_specifiers, specifier_then, Word, TypeName, Structure, StructureBody, Enumeration, EnumerationBody, no_members, member_then, no_enumerators, plain_then, valued_then, no_declarators, declarator_then, Absent, Named, Pointer, Grouped, Unsized, Sized, Empty, Void, Function, no_parameters, parameter_then}

-- how loosely an expression binds: 0 primary, 1 postfix, 2 unary, 3 cast, 4 to 13 binary, 14 conditional, 15 assignment, 16
-- comma
abbrev pub level : Expression → ℕ
level (Identifier n) = 0
level (Number p c) = 0
level (Literal p n) = 0
level (Parenthesised p a) = 0
level (Index a p b) = 1
level (Call f p xs) = 1
level (Member a p o n) = 1
level (Postfix a p o) = 1
level (Prefix p o a) = 2
level (SizeofExpression p a) = 2
level (SizeofType p q ws d) = 2
level (Cast p ws d a) = 3
level (Binary a p o b) = strength o
level (Conditional a p b c) = 14
level (Assignment a p o b) = 15
level (Comma a b) = 16

-- whether a declarator has a name, has none, or may have one
pub data Manner : Type 0 where
  by_name : Manner
  without_name : Manner
  either_way : Manner

abbrev pub MayHaveName : Manner → Type 0
MayHaveName without_name = ⊥
MayHaveName _ = Unit {0}

abbrev pub MayLackName : Manner → Type 0
MayLackName by_name = ⊥
MayLackName _ = Unit {0}

-- a declarator that suffixes may follow
abbrev pub IsDirect : Declarator → Type 0
IsDirect (Pointer p qs d) = ⊥
IsDirect _ = Unit {0}

abbrev pub IsPresent : Declarator → Type 0
IsPresent Absent = ⊥
IsPresent _ = Unit {0}

-- the name that a declarator begins with
abbrev pub leading_name : Declarator → Option Name
leading_name Absent = None
leading_name (Named n) = Some n
leading_name (Pointer p qs d) = None
leading_name (Grouped p d) = None
leading_name (Unsized d p) = leading_name d
leading_name (Sized d p e) = leading_name d
leading_name (Empty d p) = leading_name d
leading_name (Void d p q) = leading_name d
leading_name (Function d p ps) = leading_name d

abbrev pub IsNoType : Names → Option Name → Type 0
IsNoType names None = Unit {0}
IsNoType names (Some n) = is_type names n.number ≡ false

-- Where a declarator may lack its name, parentheses round a type name hold parameters.
abbrev pub IsGroup : Manner → Names → Declarator → Type 0
IsGroup by_name names d = Unit {0}
IsGroup _ names d = IsNoType names (leading_name d)

-- the place of `void`, where it is all of the specifiers
abbrev pub void_word : Specifiers → Option Place
void_word (specifier_then (Word p keywords.Void) no_specifiers) = Some p
void_word _ = None

-- `void` alone is no parameter
abbrev pub void_alone : Parameters → Option Place
void_alone (parameter_then ws Absent no_parameters) = void_word ws
void_alone _ = None

abbrev pub HasParameter : Parameters → Type 0
HasParameter no_parameters = ⊥
HasParameter _ = Unit {0}

abbrev pub HasMember : Members → Type 0
HasMember no_members = ⊥
HasMember _ = Unit {0}

abbrev pub HasEnumerator : Enumerators → Type 0
HasEnumerator no_enumerators = ⊥
HasEnumerator _ = Unit {0}

abbrev pub HasDeclarator : Declarators → Type 0
HasDeclarator no_declarators = ⊥
HasDeclarator _ = Unit {0}

abbrev mutual
  pub IsExpression : Names → Expression → Type 0
  IsExpression names (Identifier n) = is_type names n.number ≡ false
  IsExpression names (Number p c) = Unit {0}
  IsExpression names (Literal p n) = Unit {0}
  IsExpression names (Parenthesised p a) = IsExpression names a
  IsExpression names (Index a p b) = (level a ≤ 1) × IsExpression names a × IsExpression (after a names) b
  IsExpression names (Call f p xs) = (level f ≤ 1) × IsExpression names f × AreArguments (after f names) xs
  IsExpression names (Member a p o n) = (level a ≤ 1) × IsExpression names a
  IsExpression names (Postfix a p o) = (level a ≤ 1) × IsExpression names a
  IsExpression names (Prefix p o a) = (level a ≤ operand_level o) × IsExpression names a
  IsExpression names (SizeofExpression p a) = (level a ≤ 2) × IsExpression names a
  IsExpression names (SizeofType p q ws d) = IsSpecifiers nothing_seen names ws × IsDeclarator without_name (after_specifiers ws names) d
  IsExpression names (Cast p ws d a) =
      IsSpecifiers nothing_seen names ws × IsDeclarator without_name (after_specifiers ws names) d
      × (level a ≤ 3) × IsExpression (after_declarator d (after_specifiers ws names)) a
  IsExpression names (Binary a p o b) =
      (level a ≤ strength o) × (level b ≤ under o) × IsExpression names a × IsExpression (after a names) b
  IsExpression names (Conditional a p b c) =
      (level a ≤ 13) × (level c ≤ 14) × IsExpression names a × IsExpression (after a names) b × IsExpression (after b (after a names)) c
  IsExpression names (Assignment a p o b) = (level a ≤ 2) × (level b ≤ 15) × IsExpression names a × IsExpression (after a names) b
  IsExpression names (Comma a b) = (level b ≤ 15) × IsExpression names a × IsExpression (after a names) b

  pub AreArguments : Names → Expressions → Type 0
  AreArguments names no_expressions = Unit {0}
  AreArguments names (expression_then a xs) = (level a ≤ 15) × IsExpression names a × AreArguments (after a names) xs

  -- specifiers behind those that were read
  pub IsSpecifiers : Seen → Names → Specifiers → Type 0
  IsSpecifiers seen names no_specifiers = has_type seen ≡ true
  IsSpecifiers seen names (specifier_then w ws) = IsSpecifier seen names w × IsSpecifiers (seen_after seen w) (after_specifier w names) ws

  pub IsSpecifier : Seen → Names → Specifier → Type 0
  IsSpecifier seen names (Word p k) = (admits seen k ≡ true) × (is_tagged_word k ≡ false)
  IsSpecifier seen names (TypeName n) = (has_type seen ≡ false) × (is_type names n.number ≡ true)
  IsSpecifier seen names (Structure p n) = has_type seen ≡ false
  IsSpecifier seen names (StructureBody p n q ms) = (has_type seen ≡ false) × HasMember ms × AreMembers names ms
  IsSpecifier seen names (Enumeration p n) = has_type seen ≡ false
  IsSpecifier seen names (EnumerationBody p n q es c) = (has_type seen ≡ false) × HasEnumerator es × AreEnumerators names es

  pub AreMembers : Names → Members → Type 0
  AreMembers names no_members = Unit {0}
  AreMembers names (member_then ws ds p ms) =
      IsSpecifiers nothing_seen names ws × HasDeclarator ds × AreDeclarators (after_specifiers ws names) ds
      × AreMembers (after_declarators ds (after_specifiers ws names)) ms

  pub AreEnumerators : Names → Enumerators → Type 0
  AreEnumerators names no_enumerators = Unit {0}
  AreEnumerators names (plain_then n es) = AreEnumerators (with_name false n names) es
  AreEnumerators names (valued_then n p e es) =
      (level e ≤ 14) × IsExpression names e × AreEnumerators (with_name false n (after e names)) es

  pub AreDeclarators : Names → Declarators → Type 0
  AreDeclarators names no_declarators = Unit {0}
  AreDeclarators names (declarator_then d ds) = IsDeclarator by_name names d × AreDeclarators (after_declarator d names) ds

  pub IsDeclarator : Manner → Names → Declarator → Type 0
  IsDeclarator manner names Absent = MayLackName manner
  IsDeclarator manner names (Named n) = MayHaveName manner
  IsDeclarator manner names (Pointer p qs d) = IsDeclarator manner names d
  IsDeclarator manner names (Grouped p d) = IsPresent d × IsGroup manner names d × IsDeclarator manner names d
  IsDeclarator manner names (Unsized d p) = IsDirect d × IsDeclarator manner names d
  IsDeclarator manner names (Sized d p e) =
      IsDirect d × IsDeclarator manner names d × (level e ≤ 14) × IsExpression (after_declarator d names) e
  IsDeclarator manner names (Empty d p) = IsDirect d × IsDeclarator manner names d
  IsDeclarator manner names (Void d p q) = IsDirect d × IsDeclarator manner names d
  IsDeclarator manner names (Function d p ps) =
      IsDirect d × IsDeclarator manner names d × HasParameter ps × (void_alone ps ≡ None)
      × AreParameters (after_declarator d names) ps

  pub AreParameters : Names → Parameters → Type 0
  AreParameters names no_parameters = Unit {0}
  AreParameters names (parameter_then ws d ps) =
      IsSpecifiers nothing_seen names ws × IsDeclarator either_way (after_specifiers ws names) d × AreParameters (after_parameter ws d names) ps
