-- How often an expression assigns each variable.
use Rattle.dae_lower_maker.specs.Counting.{MarkCounts, never, once, both}
use Rattle.dae_program.specs.Trees.{Expression, Target, Expressions, Number, Address, Frame, Variable, Read, Convert, Not, Binary, Compare, And, Or, Conditional, Comma, Assign, Update, Step, Call, Putchar, Exit, Abort, InVariable, AtAddress, no_expressions, expression_then}

abbrev mutual
  pub assignments : Expression → MarkCounts
  assignments (Number k) = never
  assignments (Address object offset) = never
  assignments (Frame p offset) = never
  assignments (Variable p v) = never
  assignments (Read p kind checked a) = assignments a
  assignments (Convert p kind a) = assignments a
  assignments (Not p a) = assignments a
  assignments (Binary p operator a b) = both (assignments a) (assignments b)
  assignments (Compare p comparison turned a b) = both (assignments a) (assignments b)
  assignments (And p a b) = both (assignments a) (assignments b)
  assignments (Or p a b) = both (assignments a) (assignments b)
  assignments (Conditional p a b c) = both (assignments a) (both (assignments b) (assignments c))
  assignments (Comma a b) = both (assignments a) (assignments b)
  assignments (Assign p kind t a) = both (target_assignments t) (assignments a)
  assignments (Update p kind t operator a) = both (target_assignments t) (assignments a)
  assignments (Step p kind t change new) = target_assignments t
  assignments (Call p f xs) = all_assignments xs
  assignments (Putchar p a) = assignments a
  assignments (Exit p a) = assignments a
  assignments (Abort p) = never

  -- what is assigned, and before that
  pub target_assignments : Target → MarkCounts
  target_assignments (InVariable v) = once v
  target_assignments (AtAddress checked a) = assignments a

  pub all_assignments : Expressions → MarkCounts
  all_assignments no_expressions = never
  all_assignments (expression_then a xs) = both (assignments a) (all_assignments xs)
