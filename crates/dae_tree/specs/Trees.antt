-- Trees as plain data. They have the variants of the trees in memory; where one of those holds a list, a pair or a struct
-- of parts, here the parts stand one by one.
use Rattle.std.specs.Prelude.{ℕ, List, Option, Bool}
use Rattle.dae_base.specs.declared.Place.{Place}
use Rattle.dae_tree.specs.declared.constants.Constant.{Constant}
use Rattle.dae_tree.specs.declared.words.Keyword.{Keyword}
use Rattle.dae_tree.specs.declared.expressions.Name.{Name}
use Rattle.dae_tree.specs.declared.operators.BinaryOperator.{BinaryOperator}
use Rattle.dae_tree.specs.declared.operators.AssignmentOperator.{AssignmentOperator}
use Rattle.dae_tree.specs.declared.operators.PrefixOperator.{PrefixOperator}
use Rattle.dae_tree.specs.declared.operators.PostfixOperator.{PostfixOperator}
use Rattle.dae_tree.specs.declared.operators.MemberOperator.{MemberOperator}

mutual
  pub data Expression : Type 0 where
    Identifier : Name → Expression
    Number : Place → Constant → Expression
    Literal : Place → ℕ → Expression
    Parenthesised : Place → Expression → Expression
    Index : Expression → Place → Expression → Expression
    Call : Expression → Place → Expressions → Expression
    Member : Expression → Place → MemberOperator → Name → Expression
    Postfix : Expression → Place → PostfixOperator → Expression
    Prefix : Place → PrefixOperator → Expression → Expression
    SizeofExpression : Place → Expression → Expression
    SizeofType : Place → Place → Specifiers → Declarator → Expression
    Cast : Place → Specifiers → Declarator → Expression → Expression
    Binary : Expression → Place → BinaryOperator → Expression → Expression
    Conditional : Expression → Place → Expression → Expression → Expression
    Assignment : Expression → Place → AssignmentOperator → Expression → Expression
    Comma : Expression → Expression → Expression

  pub data Expressions : Type 0 where
    no_expressions : Expressions
    expression_then : Expression → Expressions → Expressions

  pub data Specifiers : Type 0 where
    no_specifiers : Specifiers
    specifier_then : Specifier → Specifiers → Specifiers

  pub data Specifier : Type 0 where
    Word : Place → Keyword → Specifier
    TypeName : Name → Specifier
    Structure : Place → Name → Specifier
    StructureBody : Place → Option Name → Place → Members → Specifier
    Enumeration : Place → Name → Specifier
    EnumerationBody : Place → Option Name → Place → Enumerators → Bool → Specifier

  -- declarations of members: specifiers, declarators, and the place of the semicolon
  pub data Members : Type 0 where
    no_members : Members
    member_then : Specifiers → Declarators → Place → Members → Members

  pub data Enumerators : Type 0 where
    no_enumerators : Enumerators
    plain_then : Name → Enumerators → Enumerators
    valued_then : Name → Place → Expression → Enumerators → Enumerators

  pub data Declarators : Type 0 where
    no_declarators : Declarators
    declarator_then : Declarator → Declarators → Declarators

  pub data Declarator : Type 0 where
    Absent : Declarator
    Named : Name → Declarator
    Pointer : Place → List Place → Declarator → Declarator
    Grouped : Place → Declarator → Declarator
    Unsized : Declarator → Place → Declarator
    Sized : Declarator → Place → Expression → Declarator
    Empty : Declarator → Place → Declarator
    Void : Declarator → Place → Place → Declarator
    Function : Declarator → Place → Parameters → Declarator

  pub data Parameters : Type 0 where
    no_parameters : Parameters
    parameter_then : Specifiers → Declarator → Parameters → Parameters

mutual
  pub data Initialiser : Type 0 where
    Value : Expression → Initialiser
    Listed : Place → Initialisers → Bool → Initialiser

  pub data Initialisers : Type 0 where
    no_initialisers : Initialisers
    initialiser_then : Initialiser → Initialisers → Initialisers

pub record InitDeclarator : Type 0 where
  pub declarator : Declarator
  pub initialiser : Option (Place × Initialiser)

pub record Declaration : Type 0 where
  pub specifiers : Specifiers
  pub items : List InitDeclarator
  pub end : Place

mutual
  pub data Statement : Type 0 where
    Block : Place → List Declaration → Statements → Statement
    Nothing : Place → Statement
    Evaluate : Expression → Place → Statement
    If : Place → Place → Expression → Statement → Statement
    IfElse : Place → Place → Expression → Statement → Statement → Statement
    While : Place → Place → Expression → Statement → Statement
    Do : Place → Statement → Place → Place → Expression → Place → Statement
    For : Place → Place → Option Expression → Place → Option Expression → Place → Option Expression → Statement → Statement
    Break : Place → Place → Statement
    Continue : Place → Place → Statement
    Return : Place → Option Expression → Place → Statement
    Switch : Place → Place → Expression → Statement → Statement
    Case : Place → Expression → Statement → Statement
    Default : Place → Statement → Statement

  pub data Statements : Type 0 where
    no_statements : Statements
    statement_then : Statement → Statements → Statements

pub data External : Type 0 where
  Declared : Declaration → External
  Defined : Specifiers → Declarator → Place → List Declaration → Statements → External
