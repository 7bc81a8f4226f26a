-- The levels of operations of one kind, which their table has alike.
use Rattle.std.proofs.Common.{◌≡◌, refl}
use Rattle.dae_tree.specs.declared.operators.AssignmentOperator.{AssignmentOperator}
use Rattle.dae_tree.specs.declared.operators.AssignmentOperator.TheVariants as assignment
use Rattle.dae_tree.specs.declared.operators.MemberOperator.{MemberOperator}
use Rattle.dae_tree.specs.declared.operators.MemberOperator.TheVariants as member
use Rattle.dae_tree.specs.declared.operators.PostfixOperator.{PostfixOperator}
use Rattle.dae_tree.specs.declared.operators.PostfixOperator.TheVariants as postfix
use Rattle.dae_tree.specs.declared.operators.Operation.TheVariants as operations
use Rattle.dae_tree.specs.Operators.{reach}

pub member_reaches : (o : MemberOperator) → 1 ≡ reach (operations.Member o)
member_reaches member.Dot = refl
member_reaches member.Arrow = refl

pub step_reaches : (o : PostfixOperator) → 1 ≡ reach (operations.Step o)
step_reaches postfix.Increment = refl
step_reaches postfix.Decrement = refl

pub assignment_reaches : (o : AssignmentOperator) → 15 ≡ reach (operations.Assignment o)
assignment_reaches assignment.Assign = refl
assignment_reaches _ = refl
