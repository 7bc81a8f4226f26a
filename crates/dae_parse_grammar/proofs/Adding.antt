-- What a tree adds to the names does not depend on the names before.
use Rattle.std.proofs.Common.{◌≡◌, Bool, false, [], ◌++◌, Option, Some, None, refl, sym, ap, ◌∙◌, append_assoc}
use Rattle.dae_tree.specs.declared.expressions.Name.{Name}
use Rattle.dae_tree.specs.Names.{Names, with_name, with_optional, declared_name, has_typedef, after, after_all, after_specifiers, after_specifier, after_members, after_enumerators, after_declarators, after_declarator, after_parameter, after_parameters}
use Rattle.dae_tree.specs.Trees.{Expression, Expressions, Specifiers, Specifier, Members, Enumerators, Declarators, Declarator, Parameters, Identifier, Number, Literal, Parenthesised, Index, Call, Member, Postfix, Prefix, SizeofExpression, SizeofType, Cast, Binary, Conditional, Assignment, Comma, no_expressions, expression_then, no_specifiers, specifier_then, Word, TypeName, Structure, StructureBody, Enumeration, EnumerationBody, no_members, member_then, no_enumerators, plain_then, valued_then, no_declarators, declarator_then, Absent, Named, Pointer, Grouped, Unsized, Sized, Empty, Void, Function, no_parameters, parameter_then}

pub record Puts (N : Names → Names) : Type 0 where
  pub law : (names : Names) → N names ≡ N [] ++ names

puts_none : Puts (λ names. names)
puts_none = record { law = λ names. refl }

puts_name : (is : Bool) (n : Name) → Puts (with_name is n)
puts_name is n = record { law = λ names. refl }

puts_both : {N M : Names → Names} → Puts N → Puts M → Puts (λ names. M (N names))
puts_both {N} {M} h k =
    record { law = λ names. k.law (N names) ∙ ap (λ (ns : Names). M [] ++ ns) (h.law names) ∙ sym (append_assoc (M []) (N []) names) ∙ ap (λ (ns : Names). ns ++ names) (sym (k.law (N []))) }

mutual
  pub puts : (x : Expression) → Puts (after x)
  puts (Identifier n) = puts_none
  puts (Number p c) = puts_none
  puts (Literal p n) = puts_none
  puts (Parenthesised p a) = puts a
  puts (Index a p b) = puts_both (puts a) (puts b)
  puts (Call f p xs) = puts_both (puts f) (puts_all xs)
  puts (Member a p o n) = puts a
  puts (Postfix a p o) = puts a
  puts (Prefix p o a) = puts a
  puts (SizeofExpression p a) = puts a
  puts (SizeofType p q ws d) = puts_both (puts_specifiers ws) (puts_declarator d)
  puts (Cast p ws d a) = puts_both (puts_both (puts_specifiers ws) (puts_declarator d)) (puts a)
  puts (Binary a p o b) = puts_both (puts a) (puts b)
  puts (Conditional a p b c) = puts_both (puts_both (puts a) (puts b)) (puts c)
  puts (Assignment a p o b) = puts_both (puts a) (puts b)
  puts (Comma a b) = puts_both (puts a) (puts b)

  pub puts_all : (x : Expressions) → Puts (after_all x)
  puts_all no_expressions = puts_none
  puts_all (expression_then a xs) = puts_both (puts a) (puts_all xs)

  pub puts_specifiers : (x : Specifiers) → Puts (after_specifiers x)
  puts_specifiers no_specifiers = puts_none
  puts_specifiers (specifier_then w ws) = puts_both (puts_specifier w) (puts_specifiers ws)

  pub puts_specifier : (x : Specifier) → Puts (after_specifier x)
  puts_specifier (Word p k) = puts_none
  puts_specifier (TypeName n) = puts_none
  puts_specifier (Structure p n) = puts_none
  puts_specifier (StructureBody p n q ms) = puts_members ms
  puts_specifier (Enumeration p n) = puts_none
  puts_specifier (EnumerationBody p n q es c) = puts_enumerators es

  pub puts_members : (x : Members) → Puts (after_members x)
  puts_members no_members = puts_none
  puts_members (member_then ws ds p ms) = puts_both (puts_both (puts_specifiers ws) (puts_declarators ds)) (puts_members ms)

  pub puts_enumerators : (x : Enumerators) → Puts (after_enumerators x)
  puts_enumerators no_enumerators = puts_none
  puts_enumerators (plain_then n es) = puts_both (puts_name false n) (puts_enumerators es)
  puts_enumerators (valued_then n p e es) = puts_both (puts_both (puts e) (puts_name false n)) (puts_enumerators es)

  pub puts_declarators : (x : Declarators) → Puts (after_declarators x)
  puts_declarators no_declarators = puts_none
  puts_declarators (declarator_then d ds) = puts_both (puts_declarator d) (puts_declarators ds)

  pub puts_declarator : (x : Declarator) → Puts (after_declarator x)
  puts_declarator Absent = puts_none
  puts_declarator (Named n) = puts_none
  puts_declarator (Pointer p qs d) = puts_declarator d
  puts_declarator (Grouped p d) = puts_declarator d
  puts_declarator (Unsized d p) = puts_declarator d
  puts_declarator (Sized d p e) = puts_both (puts_declarator d) (puts e)
  puts_declarator (Empty d p) = puts_declarator d
  puts_declarator (Void d p q) = puts_declarator d
  puts_declarator (Function d p ps) = puts_declarator d

pub puts_optional : (is : Bool) (x : Option Name) → Puts (with_optional is x)
puts_optional is None = puts_none
puts_optional is (Some n) = puts_name is n

pub puts_parameter : (ws : Specifiers) (d : Declarator) → Puts (after_parameter ws d)
puts_parameter ws d = puts_both (puts_both (puts_specifiers ws) (puts_declarator d)) (puts_optional (has_typedef ws) (declared_name d))

pub puts_parameters : (x : Parameters) → Puts (after_parameters x)
puts_parameters no_parameters = puts_none
puts_parameters (parameter_then ws d ps) = puts_both (puts_parameter ws d) (puts_parameters ps)
