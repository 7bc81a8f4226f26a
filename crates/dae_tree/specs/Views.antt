-- Trees in memory as plain data.
use Rattle.std.specs.Prelude.{Bool, true, false, List, [], ◌∷◌, Option, Some, None, Box}
use Rattle.std.specs.declared.alloc.Global.{Global}
use Rattle.dae_tree.specs.declared.expressions.Expression.TheVariants as code
use Rattle.dae_tree.specs.declared.expressions.Expression.{Expression}
use Rattle.dae_tree.specs.declared.expressions.Specifier.TheVariants as specifier
use Rattle.dae_tree.specs.declared.expressions.Specifier.{Specifier}
use Rattle.dae_tree.specs.declared.expressions.Enumerator.TheVariants as enumerator
use Rattle.dae_tree.specs.declared.expressions.Enumerator.{Enumerator}
use Rattle.dae_tree.specs.declared.expressions.Declarator.TheVariants as declarator
use Rattle.dae_tree.specs.declared.expressions.Declarator.{Declarator}
use Rattle.dae_tree.specs.declared.expressions.Declarator.TheBlock.{Row_of-Expression, end_of-Expression, more_of-Expression, Row_of-Specifier, end_of-Specifier, more_of-Specifier, Row_of-Member, end_of-Member, more_of-Member, Row_of-Enumerator, end_of-Enumerator, more_of-Enumerator, Row_of-Declarator, end_of-Declarator, more_of-Declarator, Row_of-Parameter, end_of-Parameter, more_of-Parameter}
use Rattle.dae_tree.specs.declared.expressions.Member.{Member}
use Rattle.dae_tree.specs.declared.expressions.Parameter.{Parameter}
use Rattle.dae_tree.specs.declared.expressions.TrailingComma.{TrailingComma}
use Rattle.dae_tree.specs.declared.expressions.TrailingComma.TheVariants.{Present, Absent}
use Rattle.dae_tree.specs.Trees as tree

abbrev pub has_comma : TrailingComma → Bool
has_comma Present = true
has_comma Absent = false

abbrev mutual
  pub view : Expression → tree.Expression
  view (code.Identifier n) = tree.Identifier n
  view (code.Constant p c) = tree.Number p c
  view (code.Literal p n) = tree.Literal p n
  view (code.Parenthesised' p b a) = tree.Parenthesised p (view a)
  view (code.Index' b a p c d) = tree.Index (view a) p (view d)
  view (code.Call' b f p shape row) = tree.Call (view f) p (view_expressions row)
  view (code.Member' b a p o n) = tree.Member (view a) p o n
  view (code.Postfix' b a p o) = tree.Postfix (view a) p o
  view (code.Prefix' p o b a) = tree.Prefix p o (view a)
  view (code.SizeofExpression' p b a) = tree.SizeofExpression p (view a)
  view (code.SizeofType' p q b shape row d) = tree.SizeofType p q (view_specifiers row) (view_declarator d)
  view (code.Cast' p b shape row d c a) = tree.Cast p (view_specifiers row) (view_declarator d) (view a)
  view (code.Binary' b a p o c d) = tree.Binary (view a) p o (view d)
  view (code.Conditional' b a p c d e f) = tree.Conditional (view a) p (view d) (view f)
  view (code.Assignment' b a p o c d) = tree.Assignment (view a) p o (view d)
  view (code.Comma' b a c d) = tree.Comma (view a) (view d)

  pub view_expressions : {m : _} → Row_of-Expression m → tree.Expressions
  view_expressions end_of-Expression = tree.no_expressions
  view_expressions (more_of-Expression e rest) = tree.expression_then (view e) (view_expressions rest)

  pub view_specifiers : {m : _} → Row_of-Specifier m → tree.Specifiers
  view_specifiers end_of-Specifier = tree.no_specifiers
  view_specifiers (more_of-Specifier w rest) = tree.specifier_then (view_specifier w) (view_specifiers rest)

  pub view_specifier : Specifier → tree.Specifier
  view_specifier (specifier.Word p k) = tree.Word p k
  view_specifier (specifier.TypeName n) = tree.TypeName n
  view_specifier (specifier.Structure p n) = tree.Structure p n
  view_specifier (specifier.StructureBody' p n q shape row) = tree.StructureBody p n q (view_members row)
  view_specifier (specifier.Enumeration p n) = tree.Enumeration p n
  view_specifier (specifier.EnumerationBody' p n q shape row c) = tree.EnumerationBody p n q (view_enumerators row) (has_comma c)

  pub view_members : {m : _} → Row_of-Member m → tree.Members
  view_members end_of-Member = tree.no_members
  view_members (more_of-Member shape specifiers kind declarators p rest) = tree.member_then (view_specifiers specifiers) (view_declarators declarators) p (view_members rest)

  pub view_enumerators : {m : _} → Row_of-Enumerator m → tree.Enumerators
  view_enumerators end_of-Enumerator = tree.no_enumerators
  view_enumerators (more_of-Enumerator e rest) = view_enumerator e (view_enumerators rest)

  pub view_enumerator : Enumerator → tree.Enumerators → tree.Enumerators
  view_enumerator (enumerator.Plain n) rest = tree.plain_then n rest
  view_enumerator (enumerator.Valued n p e) rest = tree.valued_then n p (view e) rest

  pub view_declarators : {m : _} → Row_of-Declarator m → tree.Declarators
  view_declarators end_of-Declarator = tree.no_declarators
  view_declarators (more_of-Declarator d rest) = tree.declarator_then (view_declarator d) (view_declarators rest)

  pub view_declarator : Declarator → tree.Declarator
  view_declarator declarator.Absent = tree.Absent
  view_declarator (declarator.Named n) = tree.Named n
  view_declarator (declarator.Pointer' p qs b d) = tree.Pointer p qs.items (view_declarator d)
  view_declarator (declarator.Grouped' p b d) = tree.Grouped p (view_declarator d)
  view_declarator (declarator.Unsized' b d p) = tree.Unsized (view_declarator d) p
  view_declarator (declarator.Sized' b d p c e) = tree.Sized (view_declarator d) p (view e)
  view_declarator (declarator.Empty' b d p) = tree.Empty (view_declarator d) p
  view_declarator (declarator.Void' b d p q) = tree.Void (view_declarator d) p q
  view_declarator (declarator.Function' b d p shape row) = tree.Function (view_declarator d) p (view_parameters row)

  pub view_parameters : {m : _} → Row_of-Parameter m → tree.Parameters
  view_parameters end_of-Parameter = tree.no_parameters
  view_parameters (more_of-Parameter shape specifiers d rest) = tree.parameter_then (view_specifiers specifiers) (view_declarator d) (view_parameters rest)

-- the same, for what stands in lists and structs
abbrev pub views_specifiers : List Specifier → tree.Specifiers
views_specifiers [] = tree.no_specifiers
views_specifiers (w ∷ ws) = tree.specifier_then (view_specifier w) (views_specifiers ws)

abbrev pub views : List Expression → tree.Expressions
views [] = tree.no_expressions
views (e ∷ es) = tree.expression_then (view e) (views es)

abbrev pub views_declarators : List Declarator → tree.Declarators
views_declarators [] = tree.no_declarators
views_declarators (d ∷ ds) = tree.declarator_then (view_declarator d) (views_declarators ds)

abbrev pub views_members : List Member → tree.Members
views_members [] = tree.no_members
views_members (m ∷ ms) = tree.member_then (views_specifiers m.specifiers.items) (views_declarators m.declarators.items) m.end (views_members ms)

abbrev pub views_enumerators : List Enumerator → tree.Enumerators
views_enumerators [] = tree.no_enumerators
views_enumerators (e ∷ es) = view_enumerator e (views_enumerators es)

abbrev pub views_parameters : List Parameter → tree.Parameters
views_parameters [] = tree.no_parameters
views_parameters (p ∷ ps) = tree.parameter_then (views_specifiers p.specifiers.items) (view_declarator p.declarator) (views_parameters ps)

abbrev pub view_optional : Option (Box Expression Global) → Option tree.Expression
view_optional None = None
view_optional (Some e) = Some (view e.value)
