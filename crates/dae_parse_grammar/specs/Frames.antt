-- The states of the machine that reads trees: what it does, what is still to come behind that, the names in scope, and the
-- tokens that are left.
use Rattle.std.specs.Prelude.{ℕ, List, Option, Bool}
use Rattle.dae_base.specs.declared.Place.{Place}
use Rattle.dae_tree.specs.declared.expressions.Name.{Name}
use Rattle.dae_tree.specs.declared.operators.BinaryOperator.{BinaryOperator}
use Rattle.dae_tree.specs.declared.operators.AssignmentOperator.{AssignmentOperator}
use Rattle.dae_tree.specs.declared.operators.PrefixOperator.{PrefixOperator}
use Rattle.dae_tree.specs.Marks.{TokenMark}
use Rattle.dae_tree.specs.Names.{Names}
use Rattle.dae_tree.specs.declared.seen.Seen.{Seen}
use Rattle.dae_tree.specs.Grammar.{Manner}
use Rattle.dae_tree.specs.Lists.{MemberLine, EnumEntry, Parameter}
use Rattle.dae_tree.specs.Trees.{Expression, Specifiers, Specifier, Declarator, Initialiser, InitDeclarator, Declaration, Statement, External}

-- the body of a structure or enumeration: its first word, tag and brace, and the specifiers before it, the last first
pub record TypeBody : Type 0 where
  pub place : Place
  pub tag : Option Name
  pub brace : Place
  pub seen : Seen
  pub before : List Specifier

-- a function's parameters: what stands before them, and the names outside
pub record OpenParameters : Type 0 where
  pub declarator : Declarator
  pub place : Place
  pub manner : Manner
  pub outside : Names

-- a statement up to its test, with the place of its first word
pub data StatementHead : Type 0 where
  if_head : Place → StatementHead
  while_head : Place → StatementHead
  switch_head : Place → StatementHead
  do_head : Place → Statement → Place → StatementHead

-- the parts of a `for` before its step
pub record Loop : Type 0 where
  pub word : Place
  pub paren : Place
  pub start : Option Expression
  pub first : Place
  pub test : Option Expression
  pub second : Place

-- a block: its brace, its declarations, the last first, and the names outside
pub record Inside : Type 0 where
  pub place : Place
  pub declarations : List Declaration
  pub outside : Names

-- What comes behind a part that is read, by what it awaits. A number is the level up to which the whole may go on. Lists
-- have the last first.

-- what awaits an expression
pub data ExpressionFrame : Type 0 where
  in_parentheses : Place → ℕ → ExpressionFrame
  in_index : Expression → Place → ℕ → ExpressionFrame
  in_arguments : Expression → Place → List Expression → ℕ → ExpressionFrame
  behind_prefix : Place → PrefixOperator → ℕ → ExpressionFrame
  behind_sizeof : Place → ℕ → ExpressionFrame
  behind_cast : Place → Specifiers → Declarator → ℕ → ExpressionFrame
  behind_binary : Expression → Place → BinaryOperator → ℕ → ExpressionFrame
  behind_question : Expression → Place → ℕ → ExpressionFrame
  behind_colon : Expression → Place → Expression → ℕ → ExpressionFrame
  behind_assignment : Expression → Place → AssignmentOperator → ℕ → ExpressionFrame
  behind_comma : Expression → ℕ → ExpressionFrame
  in_size : Declarator → Place → Manner → ExpressionFrame
  in_enumerator : TypeBody → List EnumEntry → Name → Place → ExpressionFrame
  in_value : ExpressionFrame
  in_evaluation : ExpressionFrame
  in_test : StatementHead → Place → ExpressionFrame
  in_start : Place → Place → ExpressionFrame
  in_loop_test : Place → Place → Option Expression → Place → ExpressionFrame
  in_step : Loop → ExpressionFrame
  in_return : Place → ExpressionFrame
  in_case : Place → ExpressionFrame

-- what awaits specifiers
pub data SpecifiersFrame : Type 0 where
  for_cast : Place → ℕ → SpecifiersFrame
  for_sizeof : Place → Place → ℕ → SpecifiersFrame
  for_parameter : OpenParameters → List Parameter → SpecifiersFrame
  for_member : TypeBody → List MemberLine → SpecifiersFrame
  for_declaration : Bool → SpecifiersFrame

-- what awaits a declarator
pub data DeclaratorFrame : Type 0 where
  behind_star : Place → List Place → DeclaratorFrame
  in_group : Place → Manner → DeclaratorFrame
  of_cast : Place → Specifiers → ℕ → DeclaratorFrame
  of_sizeof : Place → Place → Specifiers → ℕ → DeclaratorFrame
  of_parameter : OpenParameters → List Parameter → Specifiers → DeclaratorFrame
  of_member : TypeBody → List MemberLine → Specifiers → List Declarator → DeclaratorFrame
  of_item : Bool → Specifiers → List InitDeclarator → DeclaratorFrame

-- what awaits an initialiser
pub data InitialiserFrame : Type 0 where
  in_list : Place → List Initialiser → InitialiserFrame
  of_value : Specifiers → List InitDeclarator → Declarator → Place → InitialiserFrame

-- what awaits a declaration
pub data DeclarationFrame : Type 0 where
  in_file : List External → DeclarationFrame
  in_block : Inside → DeclarationFrame

-- what awaits a statement
pub data StatementFrame : Type 0 where
  then_branch : Place → Place → Expression → StatementFrame
  else_branch : Place → Place → Expression → Statement → StatementFrame
  while_body : Place → Place → Expression → StatementFrame
  switch_body : Place → Place → Expression → StatementFrame
  do_body : Place → StatementFrame
  for_body : Loop → Option Expression → StatementFrame
  case_body : Place → Expression → StatementFrame
  default_body : Place → StatementFrame
  in_statements : Inside → List Statement → StatementFrame
  in_definition : Specifiers → Declarator → Names → StatementFrame

pub data Frame : Type 0 where
  awaits_expression : ExpressionFrame → Frame
  awaits_specifiers : SpecifiersFrame → Frame
  awaits_declarator : DeclaratorFrame → Frame
  awaits_initialiser : InitialiserFrame → Frame
  awaits_declaration : DeclarationFrame → Frame
  awaits_statement : StatementFrame → Frame

pub data Doing : Type 0 where
  -- an expression up to a level: to be read, read so far, read whole
  seek : ℕ → Doing
  operated : Expression → ℕ → Doing
  gave : Expression → Doing
  -- behind the parenthesis of a call, and behind sizeof
  calling : Expression → Place → ℕ → Doing
  measuring : Place → ℕ → Doing
  -- specifiers
  specifying : Seen → List Specifier → Doing
  tagging : Bool → Place → Seen → List Specifier → Doing
  tagged : Bool → Place → Name → Seen → List Specifier → Doing
  membering : TypeBody → List MemberLine → Doing
  enumerating : TypeBody → List EnumEntry → Doing
  enumerated : TypeBody → List EnumEntry → Name → Doing
  entered : TypeBody → List EnumEntry → EnumEntry → Doing
  entering : TypeBody → List EnumEntry → EnumEntry → Doing
  gave_specifiers : Specifiers → Doing
  -- declarators; the truth value says that some part must stand there
  declaring : Manner → Bool → Doing
  qualifying : Manner → Place → List Place → Doing
  suffixing : Manner → Declarator → Doing
  sizing : Manner → Declarator → Place → Doing
  parametering : Manner → Declarator → Place → Doing
  gave_declarator : Declarator → Doing
  -- initialisers
  initialising : Doing
  listing : Place → Initialiser → List Initialiser → Doing
  gave_initialiser : Initialiser → Doing
  -- declarations
  itemed : Specifiers → InitDeclarator → List InitDeclarator → Doing
  gave_declaration : Declaration → Doing
  externals : List External → Doing
  -- statements
  declarations : Inside → Doing
  statements : Inside → List Statement → Doing
  stating : Doing
  opening : StatementHead → Doing
  finishing : Place → Statement → Place → Place → Expression → Doing
  looping : Place → Doing
  starting : Place → Place → Doing
  testing : Place → Place → Option Expression → Place → Doing
  stepping : Loop → Doing
  returning : Place → Doing
  breaking : Place → Doing
  continuing : Place → Doing
  defaulting : Place → Doing
  gave_statement : Statement → Doing

pub data ParserState : Type 0 where
  state : Doing → List Frame → Names → List TokenMark → ParserState
