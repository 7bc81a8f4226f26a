-- Each variable of a typed function is set before it is read, whichever way the function goes. What a loop sets doesn't count
-- behind it, since it may be left before, and what an arm of a switch sets doesn't count behind that arm. A scalar that is
-- declared without an initialiser is 0 on each entry to its block, which is an assignment: so a variable that isn't set first
-- is one whose initialiser names it, or one whose declaration a switch jumps over.
use Rattle.std.specs.Prelude.{Bool, true, ◌&&◌, List, [], ◌∷◌, length, Option, Some, None}
use Rattle.dae_meaning.specs.Variables.{VariableSet, with_set, all_set, parameters_set}
use Rattle.dae_program.specs.Trees.{Expression, Target, Expressions, Setting, Statements, Arms, Function, Number, Address, Frame, Variable, Read, Convert, Not, Binary, Compare, And, Or, Conditional, Comma, Assign, Update, Step, Call, Putchar, Exit, Abort, InVariable, AtAddress, no_expressions, expression_then, Done, Evaluate, Initialise, Print, If, Loop, Do, Switch, Break, Continue, Return, no_arms, arm_then}

-- in both
abbrev pub both : VariableSet → VariableSet → VariableSet
both c d v = c v && d v

abbrev pub with_target : Target → VariableSet → VariableSet
with_target (InVariable v) d = with_set v d
with_target (AtAddress checked a) d = d

-- ---- what is set behind an expression in any case, where d was set before

abbrev mutual
  pub set_behind : VariableSet → Expression → VariableSet
  set_behind d (Number k) = d
  set_behind d (Address object offset) = d
  set_behind d (Frame p offset) = d
  set_behind d (Variable p v) = d
  set_behind d (Read p kind checked a) = set_behind d a
  set_behind d (Convert p kind a) = set_behind d a
  set_behind d (Not p a) = set_behind d a
  set_behind d (Binary p operator a b) = set_behind (set_behind d a) b
  set_behind d (Compare p comparison turned a b) = set_behind (set_behind d a) b
  set_behind d (And p a b) = set_behind d a
  set_behind d (Or p a b) = set_behind d a
  set_behind d (Conditional p a b c) = both (set_behind (set_behind d a) b) (set_behind (set_behind d a) c)
  set_behind d (Comma a b) = set_behind (set_behind d a) b
  set_behind d (Assign p kind t a) = with_target t (set_behind (set_behind_target d t) a)
  set_behind d (Update p kind t operator a) = with_target t (set_behind (set_behind_target d t) a)
  set_behind d (Step p kind t change new) = set_behind_target d t
  set_behind d (Call p f xs) = set_behind_all d xs
  set_behind d (Putchar p a) = set_behind d a
  set_behind d (Exit p a) = all_set
  set_behind d (Abort p) = d

  -- before the assignment itself
  pub set_behind_target : VariableSet → Target → VariableSet
  set_behind_target d (InVariable v) = d
  set_behind_target d (AtAddress checked a) = set_behind d a

  pub set_behind_all : VariableSet → Expressions → VariableSet
  set_behind_all d no_expressions = d
  set_behind_all d (expression_then a xs) = set_behind_all (set_behind d a) xs

abbrev pub set_behind_some : VariableSet → Option Expression → VariableSet
set_behind_some d None = d
set_behind_some d (Some e) = set_behind d e

-- ---- whether what is read was set before

-- the old value of a target is read
abbrev pub is_old_set : VariableSet → Target → Bool
is_old_set d (InVariable v) = d v
is_old_set d (AtAddress checked a) = true

abbrev mutual
  pub reads_set : VariableSet → Expression → Bool
  reads_set d (Number k) = true
  reads_set d (Address object offset) = true
  reads_set d (Frame p offset) = true
  reads_set d (Variable p v) = d v
  reads_set d (Read p kind checked a) = reads_set d a
  reads_set d (Convert p kind a) = reads_set d a
  reads_set d (Not p a) = reads_set d a
  reads_set d (Binary p operator a b) = reads_set d a && reads_set (set_behind d a) b
  reads_set d (Compare p comparison turned a b) = reads_set d a && reads_set (set_behind d a) b
  reads_set d (And p a b) = reads_set d a && reads_set (set_behind d a) b
  reads_set d (Or p a b) = reads_set d a && reads_set (set_behind d a) b
  reads_set d (Conditional p a b c) = reads_set d a && (reads_set (set_behind d a) b && reads_set (set_behind d a) c)
  reads_set d (Comma a b) = reads_set d a && reads_set (set_behind d a) b
  reads_set d (Assign p kind t a) = reads_set_target d t && reads_set (set_behind_target d t) a
  reads_set d (Update p kind t operator a) = (reads_set_target d t && is_old_set d t) && reads_set (set_behind_target d t) a
  reads_set d (Step p kind t change new) = reads_set_target d t && is_old_set d t
  reads_set d (Call p f xs) = all_read_set d xs
  reads_set d (Putchar p a) = reads_set d a
  reads_set d (Exit p a) = reads_set d a
  reads_set d (Abort p) = true

  pub reads_set_target : VariableSet → Target → Bool
  reads_set_target d (InVariable v) = true
  reads_set_target d (AtAddress checked a) = reads_set d a

  pub all_read_set : VariableSet → Expressions → Bool
  all_read_set d no_expressions = true
  all_read_set d (expression_then a xs) = reads_set d a && all_read_set (set_behind d a) xs

abbrev pub some_reads_set : VariableSet → Option Expression → Bool
some_reads_set d None = true
some_reads_set d (Some e) = reads_set d e

-- ---- statements

abbrev pub set_behind_items : VariableSet → List Setting → VariableSet
set_behind_items d [] = d
set_behind_items d (item ∷ items) = set_behind_items (set_behind d item.value) items

abbrev pub items_read_set : VariableSet → List Setting → Bool
items_read_set d [] = true
items_read_set d (item ∷ items) = reads_set d item.value && items_read_set (set_behind d item.value) items

-- behind what goes elsewhere anything may be said
abbrev pub set_behind_statements : VariableSet → Statements → VariableSet
set_behind_statements d Done = d
set_behind_statements d (Evaluate p e k) = set_behind_statements (set_behind d e) k
set_behind_statements d (Initialise p offset size items k) = set_behind_statements (set_behind_items d items) k
set_behind_statements d (Print p xs pieces k) = set_behind_statements (set_behind_all d xs) k
set_behind_statements d (If p e t u k) =
    set_behind_statements (both (set_behind_statements (set_behind d e) t) (set_behind_statements (set_behind d e) u)) k
set_behind_statements d (Loop p test body step k) = set_behind_statements d k
set_behind_statements d (Do p body test k) = set_behind_statements d k
set_behind_statements d (Switch p e arms k) = set_behind_statements (set_behind d e) k
set_behind_statements d (Break p k) = set_behind_statements all_set k
set_behind_statements d (Continue p k) = set_behind_statements all_set k
set_behind_statements d (Return p e k) = set_behind_statements all_set k

abbrev mutual
  pub statements_read_set : VariableSet → Statements → Bool
  statements_read_set d Done = true
  statements_read_set d (Evaluate p e k) = reads_set d e && statements_read_set (set_behind d e) k
  statements_read_set d (Initialise p offset size items k) = items_read_set d items && statements_read_set (set_behind_items d items) k
  statements_read_set d (Print p xs pieces k) = all_read_set d xs && statements_read_set (set_behind_all d xs) k
  statements_read_set d (If p e t u k) =
      (reads_set d e && (statements_read_set (set_behind d e) t && statements_read_set (set_behind d e) u))
      && statements_read_set (both (set_behind_statements (set_behind d e) t) (set_behind_statements (set_behind d e) u)) k
  statements_read_set d (Loop p test body step k) =
      (some_reads_set d test && (statements_read_set (set_behind_some d test) body && some_reads_set d step)) && statements_read_set d k
  statements_read_set d (Do p body test k) = (statements_read_set d body && reads_set d test) && statements_read_set d k
  statements_read_set d (Switch p e arms k) =
      (reads_set d e && arms_read_set (set_behind d e) arms) && statements_read_set (set_behind d e) k
  statements_read_set d (Break p k) = statements_read_set all_set k
  statements_read_set d (Continue p k) = statements_read_set all_set k
  statements_read_set d (Return p e k) = some_reads_set d e && statements_read_set all_set k

  pub arms_read_set : VariableSet → Arms → Bool
  arms_read_set d no_arms = true
  arms_read_set d (arm_then labels t rest) = statements_read_set d t && arms_read_set d rest

-- the parameters are set at the entry
abbrev pub is_set_first : Function → Bool
is_set_first f = statements_read_set (parameters_set (length f.parameters)) f.body
