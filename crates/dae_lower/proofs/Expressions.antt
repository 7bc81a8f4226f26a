-- Each expression's form follows its evaluation, as a value, for its effects, and as a condition.
use Rattle.std.proofs.Common.{◌≡◌, ℕ, sym, subst}
use Rattle.dae_base.specs.Words.{plus}
use Rattle.dae_meaning.specs.Worlds.{ticked}
use Rattle.dae_ir.specs.Form.{Calls, Program}
use Rattle.dae_program.specs.Trees as tree
use Rattle.dae_program.specs.Trees.{Expression, Target, Expressions}
use Rattle.dae_program.specs.Scope.{IsIn, IsTargetIn, AreIn}
use Rattle.dae_program.specs.Outcomes.{Gives}
use Rattle.dae_program.specs.Expressions.{ProgramSetup, evaluate as value}
use Rattle.dae_lower.specs.Lowering.{nowhere, assigned, Links, ways}
use Rattle.dae_lower.proofs.Valued.{Faithful, as_condition, by_value_faithful, number_follows, frame_follows, variable_faithful}
use Rattle.dae_lower.proofs.Operators.{read_value, convert_faithful, binary_value, not_faithful, comma_faithful, compare_faithful}
use Rattle.dae_lower.proofs.Choices.{and_value, or_value, conditional_value, conditional_effect}
use Rattle.dae_lower.proofs.Assignments.{TargetFaithful, local_target, address_target, assign_value, update_value, step_faithful}
use Rattle.dae_lower.proofs.Arguments.{putchar_value, putchar_effect, exit_value, abort_value, AllFaithful, no_operands, more_operands, Called, call_value}

module _ (m n : ℕ) (s : ProgramSetup) (l : Links) (p : Program) (calls : Calls) where
  module _ (places : (k : ℕ) → s.address k ≡ l.address k) where
    module _ (called : (Called m n s l p calls places)) where
      -- ---- each expression

      mutual
        pub faithful : (e : Expression) → IsIn m e → (Faithful m n s l p calls) (assigned e) (ways l e) (value s e)
        faithful (tree.Number c) h = (number_follows m n s l p calls) c
        faithful (tree.Address object offset) h = subst (λ (t : ℕ). (Faithful m n s l p calls) nowhere (ways l (tree.Address object offset)) (λ env w. Gives (plus t offset) env (ticked w))) (sym (places object)) ((number_follows m n s l p calls) (plus (l.address object) offset))
        faithful (tree.Frame place offset) h = (frame_follows m n s l p calls) place offset
        faithful (tree.Variable place v) h = (variable_faithful m n s l p calls) place v h
        faithful (tree.Read place kind b a) h = (by_value_faithful m n s l p calls) (assigned a) _ _ ((read_value m n s l p calls places) place kind b a (faithful a h))
        faithful (tree.Convert place kind a) h = (convert_faithful m n s l p calls places) place kind a (faithful a h)
        faithful (tree.Not place a) h = (not_faithful m n s l p calls places) place a (faithful a h)
        faithful (tree.Binary place operator a b) h = (by_value_faithful m n s l p calls) _ _ _ ((binary_value m n s l p calls places) place operator a b (faithful a h.0) (faithful b h.1))
        faithful (tree.Compare place comparison turned a b) h = (compare_faithful m n s l p calls places) place comparison turned a b (faithful a h.0) (faithful b h.1)
        faithful (tree.And place a b) h = (by_value_faithful m n s l p calls) _ _ _ ((and_value m n s l p calls places) place a b (faithful a h.0) (faithful b h.1))
        faithful (tree.Or place a b) h = (by_value_faithful m n s l p calls) _ _ _ ((or_value m n s l p calls places) place a b (faithful a h.0) (faithful b h.1))
        faithful (tree.Conditional place a b c) h = record {
          value = (conditional_value m n s l p calls places) place a b c (faithful a h.0) (faithful b h.1) (faithful c h.2);
          effect = (conditional_effect m n s l p calls places) place a b c (faithful a h.0) (faithful b h.1) (faithful c h.2);
          condition = (as_condition m n s l p calls) _ _ _ ((conditional_value m n s l p calls places) place a b c (faithful a h.0) (faithful b h.1) (faithful c h.2));
        }
        faithful (tree.Comma a b) h = (comma_faithful m n s l p calls places) a b (faithful a h.0) (faithful b h.1)
        faithful (tree.Assign place kind t a) h = (by_value_faithful m n s l p calls) _ _ _ ((assign_value m n s l p calls places) place kind t a (target_faithful t h.0) (faithful a h.1))
        faithful (tree.Update place kind t operator a) h = (by_value_faithful m n s l p calls) _ _ _ ((update_value m n s l p calls places) place kind t operator a (target_faithful t h.0) (faithful a h.1))
        faithful (tree.Step place kind t change new) h = (step_faithful m n s l p calls places) place kind t change new (target_faithful t h.0)
        faithful (tree.Call place f xs) h = (by_value_faithful m n s l p calls) _ _ _ ((call_value m n s l p calls places called) place f xs (all_faithful xs h))
        faithful (tree.Putchar place a) h = record {
          value = (putchar_value m n s l p calls places) place a (faithful a h);
          effect = (putchar_effect m n s l p calls places) place a (faithful a h);
          condition = (as_condition m n s l p calls) _ _ _ ((putchar_value m n s l p calls places) place a (faithful a h));
        }
        faithful (tree.Exit place a) h = (by_value_faithful m n s l p calls) _ _ _ ((exit_value m n s l p calls places) place a (faithful a h))
        faithful (tree.Abort place) h = (by_value_faithful m n s l p calls) _ _ _ ((abort_value m n s l p calls places) place)

        target_faithful : (t : Target) → IsTargetIn m t → (TargetFaithful m n s l p calls places) t
        target_faithful (tree.InVariable v) h = (local_target m n s l p calls places) v h.1
        target_faithful (tree.AtAddress b a) h = (address_target m n s l p calls places) b a (faithful a h)

        pub all_faithful : (xs : Expressions) → AreIn m xs → (AllFaithful m n s l p calls places) xs
        all_faithful tree.no_expressions h = (no_operands m n s l p calls places)
        all_faithful (tree.expression_then a xs) h = (more_operands m n s l p calls places) a xs (faithful a h.0) (all_faithful xs h.1)
