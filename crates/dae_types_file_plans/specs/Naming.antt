-- The variables that a typed expression names, to read or to set them.
use Rattle.std.specs.Prelude.{ℕ, Bool, false, ◌||◌, nat_eq}
use Rattle.dae_program.specs.Trees.{Expression, Target, Expressions, Number, Address, Frame, Variable, Read, Convert, Not, Binary, Compare, And, Or, Conditional, Comma, Assign, Update, Step, Call, Putchar, Exit, Abort, InVariable, AtAddress, no_expressions, expression_then}

abbrev mutual
  pub names_variable : ℕ → Expression → Bool
  names_variable n (Number w) = false
  names_variable n (Address object offset) = false
  names_variable n (Frame p offset) = false
  names_variable n (Variable p v) = nat_eq v n
  names_variable n (Read p kind checked a) = names_variable n a
  names_variable n (Convert p kind a) = names_variable n a
  names_variable n (Not p a) = names_variable n a
  names_variable n (Binary p operator a b) = names_variable n a || names_variable n b
  names_variable n (Compare p comparison turned a b) = names_variable n a || names_variable n b
  names_variable n (And p a b) = names_variable n a || names_variable n b
  names_variable n (Or p a b) = names_variable n a || names_variable n b
  names_variable n (Conditional p a b c) = names_variable n a || (names_variable n b || names_variable n c)
  names_variable n (Comma a b) = names_variable n a || names_variable n b
  names_variable n (Assign p kind t a) = target_names n t || names_variable n a
  names_variable n (Update p kind t operator a) = target_names n t || names_variable n a
  names_variable n (Step p kind t change new) = target_names n t
  names_variable n (Call p f xs) = some_names n xs
  names_variable n (Putchar p a) = names_variable n a
  names_variable n (Exit p a) = names_variable n a
  names_variable n (Abort p) = false

  pub target_names : ℕ → Target → Bool
  target_names n (InVariable v) = nat_eq v n
  target_names n (AtAddress checked a) = names_variable n a

  pub some_names : ℕ → Expressions → Bool
  some_names n no_expressions = false
  some_names n (expression_then a xs) = names_variable n a || some_names n xs
