-- The operators as their tables have them: their signs, and how strongly they bind (C90 6.3). Levels are named in
-- src/levels.rt: 1 behind an operand, 2 before one, 3 casts, 4 to 13 the binary operators from `*` to `||`, 14 the conditional
-- operator, 15 assignment, 16 the comma.
use Rattle.std.specs.Prelude.{ℕ, ◌-◌, Bool, List, Option, Some, None, find, option_map}
use Rattle.dae_tree.specs.declared.signs.Sign.{Sign}
use Rattle.dae_tree.specs.declared.signs.Sign.TheVariants as signs
use Rattle.dae_tree.specs.contracts.signs.SignPartialEq.TheImpl.{ghosts as of_signs}
use Rattle.dae_tree.specs.declared.levels.TheConstants.{PRIMARY, UNARY, LOGICAL_OR, NONE}
use Rattle.dae_tree.specs.declared.operators.TheConstants.{OPERATIONS, PREFIXES}
use Rattle.dae_tree.specs.declared.operators.BinaryOperator.{BinaryOperator}
use Rattle.dae_tree.specs.declared.operators.AssignmentOperator.{AssignmentOperator}
use Rattle.dae_tree.specs.declared.operators.PrefixOperator.{PrefixOperator}
use Rattle.dae_tree.specs.declared.operators.PostfixOperator.{PostfixOperator}
use Rattle.dae_tree.specs.declared.operators.MemberOperator.{MemberOperator}
use Rattle.dae_tree.specs.declared.operators.Operation.{Operation}
use Rattle.dae_tree.specs.declared.operators.Operation.TheVariants as operations
use Rattle.dae_tree.specs.contracts.operators.OperationPartialEq.TheImpl.{ghosts as of_operations}
use Rattle.dae_tree.specs.contracts.operators.PrefixOperatorPartialEq.TheImpl.{ghosts as of_prefixes}

-- a row of a table: a sign, what it is, and a level
abbrev pub Row : Type 0 → Type 0
Row A = Sign × A × ℕ

-- the first row of a sign, and of an operator
abbrev pub row_at : {A : Type 0} → List (Row A) → Sign → Option (Row A)
row_at rows g = find (λ r. of_signs.eq r.0 g) rows

abbrev pub row_of : {A : Type 0} → (A → A → Bool) → List (Row A) → A → Option (Row A)
row_of same rows o = find (λ r. same r.1 o) rows

-- the sign in a row, or a comma where there is no row; the level in it, or that above all
abbrev pub sign_in : {A : Type 0} → Option (Row A) → Sign
sign_in None = signs.Comma
sign_in (Some r) = r.0

abbrev pub level_in : {A : Type 0} → Option (Row A) → ℕ
level_in None = NONE
level_in (Some r) = r.2

-- behind an operand: what a sign begins, its sign, and the level of the whole
abbrev pub operation : Sign → Operation
operation g = elim (row_at OPERATIONS g) [ None ↦ operations.Ends | Some r ↦ r.1 ]

abbrev pub operation_sign : Operation → Sign
operation_sign o = sign_in (row_of of_operations.eq OPERATIONS o)

abbrev pub reach : Operation → ℕ
reach o = level_in (row_of of_operations.eq OPERATIONS o)

-- the highest level of what stands on the left
abbrev pub left_level : Operation → ℕ
left_level operations.Choice = LOGICAL_OR
left_level (operations.Assignment o) = UNARY
left_level operations.Ends = PRIMARY
left_level o = reach o

abbrev pub member_sign : MemberOperator → Sign
member_sign o = operation_sign (operations.Member o)

abbrev pub postfix_sign : PostfixOperator → Sign
postfix_sign o = operation_sign (operations.Step o)

abbrev pub binary_sign : BinaryOperator → Sign
binary_sign o = operation_sign (operations.Binary o)

abbrev pub assignment_sign : AssignmentOperator → Sign
assignment_sign o = operation_sign (operations.Assignment o)

abbrev pub strength : BinaryOperator → ℕ
strength o = reach (operations.Binary o)

-- the highest level of a right operand
abbrev pub under : BinaryOperator → ℕ
under o = strength o - 1

-- before an operand: what a sign is, its sign, and the highest level of the operand
abbrev pub prefix_at : Sign → Option PrefixOperator
prefix_at g = option_map (λ r. r.1) (row_at PREFIXES g)

abbrev pub prefix_sign : PrefixOperator → Sign
prefix_sign o = sign_in (row_of of_prefixes.eq PREFIXES o)

abbrev pub operand_level : PrefixOperator → ℕ
operand_level o = level_in (row_of of_prefixes.eq PREFIXES o)
