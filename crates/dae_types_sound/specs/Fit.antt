-- Whether a function's body fits its file, wherever the file's objects are put: the test of a program (is_lawful) with the
-- layouts of objects in place of addresses. An access that isn't checked is one of an object that the file uses, or of the
-- frame, within its bytes and at a multiple of the width; a call is one of a function that the file uses.
use Rattle.std.specs.Prelude.{ℕ, ◌+◌, ◌-◌, ◌%◌, Bool, true, false, ◌&&◌, nat_eq, nat_lt, nat_le, Option, Some, None, slice_get, length, not, ◌||◌}
use Rattle.std.specs.List.{list_all}
use Rattle.dae_base.specs.Words.{plus, size, width_of}
use Rattle.dae_base.specs.declared.Width.{Width}
use Rattle.dae_program.specs.Lawful.{is_word, fits_frame, adds, number_of, if_number, count, takes, is_label_word, is_byte, is_sound_slot}
use Rattle.dae_program.specs.Views.{view_statements}
use Rattle.dae_types_plans.specs.Steps.{parameter_types}
use Rattle.dae_types_typed.specs.declared.files.FileParts.{FileParts}
use Rattle.dae_types_typed.specs.declared.files.TypedFunction.{TypedFunction}
use Rattle.dae_types_typed.specs.Sound.{tables_of, is_called_main}
use Rattle.dae_program.specs.Switches.{count_arms}
use Rattle.dae_program.specs.Trees.{Expression, Target, Expressions, Setting, Statements, Arms, Number, Address, Frame, Variable, Read, Convert, Not, Binary, Compare, And, Or, Conditional, Comma, Assign, Update, Step, Call, Putchar, Exit, Abort, InVariable, AtAddress, no_expressions, expression_then, Done, Evaluate, Initialise, Print, If, Loop, Do, Switch, Break, Continue, Return, no_arms, arm_then}
use Rattle.dae_types_kinds.specs.declared.types.Layout.{Layout}
use Rattle.dae_types_sound.specs.declared.extents.FunctionExtent.{FunctionExtent}
use Rattle.dae_types_sound.specs.declared.extents.FileNames.{FileNames}
use Rattle.dae_types_sound.specs.declared.extents.Jumps.{Jumps}

-- ---- objects by name

abbrev pub has_bytes : Width → (k : ℕ) → Option (Option Layout) → Bool
has_bytes width k None = false
has_bytes width k (Some None) = false
has_bytes width k (Some (Some l)) =
    (nat_eq (l.align % size width) 0 && nat_eq (k % size width) 0) && nat_le (k + size width) l.size

-- so many bytes of an object from its byte k on; the literals come first
abbrev pub is_in_object : FileNames → Width → (object k : ℕ) → Bool
is_in_object n width object k =
    nat_le n.literals object && has_bytes width k (slice_get n.objects (object - n.literals))

-- an object of a name, k bytes further
abbrev pub names_bytes : FileNames → FunctionExtent → Width → ℕ → Expression → Bool
names_bytes n x width k (Address object offset) = is_in_object n width object (plus offset k)
names_bytes n x width k (Frame p offset) = fits_frame width (plus offset k) x.frame
names_bytes n x width k (Binary p operator a b) =
    adds operator && if_number (number_of b) (λ j. names_bytes n x width (plus j k) a)
names_bytes n x width k (Conditional p a b c) = names_bytes n x width k b && names_bytes n x width k c
names_bytes n x width k (Comma a b) = names_bytes n x width k b
names_bytes n x width k (Number j) = false
names_bytes n x width k (Variable p v) = false
names_bytes n x width k (Read p kind checked a) = false
names_bytes n x width k (Convert p kind a) = false
names_bytes n x width k (Not p a) = false
names_bytes n x width k (Compare p comparison turned a b) = false
names_bytes n x width k (And p a b) = false
names_bytes n x width k (Or p a b) = false
names_bytes n x width k (Assign p kind t a) = false
names_bytes n x width k (Update p kind t operator a) = false
names_bytes n x width k (Step p kind t change new) = false
names_bytes n x width k (Call p f xs) = false
names_bytes n x width k (Putchar p a) = false
names_bytes n x width k (Exit p a) = false
names_bytes n x width k (Abort p) = false

abbrev pub is_checked_or_fit : FileNames → FunctionExtent → Bool → Width → Expression → Bool
is_checked_or_fit n x true width a = true
is_checked_or_fit n x false width a = names_bytes n x width 0 a

-- ---- expressions

abbrev pub known_count : Option (Option ℕ) → Option ℕ
known_count None = None
known_count (Some c) = c

-- how many parameters a function has that the file uses
abbrev pub parameters_at : FileNames → ℕ → Option ℕ
parameters_at n f = known_count (slice_get n.functions f)

abbrev mutual
  pub is_fit : FileNames → FunctionExtent → Expression → Bool
  is_fit n x (Number k) = is_word k
  is_fit n x (Address object offset) = is_word offset
  is_fit n x (Frame p offset) = is_word offset
  is_fit n x (Variable p v) = nat_lt v x.variables
  is_fit n x (Read p kind checked a) = is_checked_or_fit n x checked (width_of kind) a && is_fit n x a
  is_fit n x (Convert p kind a) = is_fit n x a
  is_fit n x (Not p a) = is_fit n x a
  is_fit n x (Binary p operator a b) = is_fit n x a && is_fit n x b
  is_fit n x (Compare p comparison turned a b) = is_fit n x a && is_fit n x b
  is_fit n x (And p a b) = is_fit n x a && is_fit n x b
  is_fit n x (Or p a b) = is_fit n x a && is_fit n x b
  is_fit n x (Conditional p a b c) = is_fit n x a && (is_fit n x b && is_fit n x c)
  is_fit n x (Comma a b) = is_fit n x a && is_fit n x b
  is_fit n x (Assign p kind t a) = is_fit_target n x (width_of kind) t && is_fit n x a
  is_fit n x (Update p kind t operator a) = is_fit_target n x (width_of kind) t && is_fit n x a
  is_fit n x (Step p kind t change new) = is_fit_target n x (width_of kind) t && is_word change
  is_fit n x (Call p f xs) = takes (parameters_at n f) (count xs) && are_fit n x xs
  is_fit n x (Putchar p a) = is_fit n x a
  is_fit n x (Exit p a) = is_fit n x a
  is_fit n x (Abort p) = true

  pub is_fit_target : FileNames → FunctionExtent → Width → Target → Bool
  is_fit_target n x width (InVariable v) = nat_lt 0 v && nat_lt v x.variables
  is_fit_target n x width (AtAddress checked a) = is_checked_or_fit n x checked width a && is_fit n x a

  pub are_fit : FileNames → FunctionExtent → Expressions → Bool
  are_fit n x no_expressions = true
  are_fit n x (expression_then a xs) = is_fit n x a && are_fit n x xs

-- a call of a function that the file uses
abbrev pub is_fit_call : FileNames → FunctionExtent → ℕ → Expressions → Bool
is_fit_call n x f xs = takes (parameters_at n f) (count xs) && are_fit n x xs

abbrev pub is_fit_some : FileNames → FunctionExtent → Option Expression → Bool
is_fit_some n x None = true
is_fit_some n x (Some a) = is_fit n x a

-- ---- statements

abbrev pub is_fit_item : FileNames → FunctionExtent → Setting → Bool
is_fit_item n x item = (is_word item.offset && fits_frame item.width item.offset x.frame) && is_fit n x item.value

abbrev pub is_fit_aggregate : FunctionExtent → (offset bytes : ℕ) → Bool
is_fit_aggregate x offset bytes = (is_word offset && is_word bytes) && nat_le (offset + bytes) x.frame

-- a loop may be left and continued, and a switch may be left
abbrev pub loop_jumps : Jumps → Jumps
loop_jumps j = record { breaks = true; continues = true; returns = j.returns }

abbrev pub switch_jumps : Jumps → Jumps
switch_jumps j = record { breaks = true; continues = j.continues; returns = j.returns }

-- statements where these jumps may stand
abbrev mutual
  pub are_fit_statements : FileNames → FunctionExtent → Jumps → Statements → Bool
  are_fit_statements n x j Done = true
  are_fit_statements n x j (Evaluate p a k) = is_fit n x a && are_fit_statements n x j k
  are_fit_statements n x j (Initialise p offset bytes items k) =
      (is_fit_aggregate x offset bytes && list_all (is_fit_item n x) items) && are_fit_statements n x j k
  are_fit_statements n x j (Print p xs pieces k) = (are_fit n x xs && list_all is_byte pieces) && are_fit_statements n x j k
  are_fit_statements n x j (If p a t u k) =
      (is_fit n x a && (are_fit_statements n x j t && are_fit_statements n x j u)) && are_fit_statements n x j k
  are_fit_statements n x j (Loop p test body step k) =
      (is_fit_some n x test && (are_fit_statements n x (loop_jumps j) body && is_fit_some n x step)) && are_fit_statements n x j k
  are_fit_statements n x j (Do p body test k) =
      (are_fit_statements n x (loop_jumps j) body && is_fit n x test) && are_fit_statements n x j k
  are_fit_statements n x j (Switch p a arms k) =
      ((is_fit n x a && is_word (count_arms arms)) && are_fit_arms n x (switch_jumps j) arms) && are_fit_statements n x j k
  are_fit_statements n x j (Break p k) = j.breaks && are_fit_statements n x j k
  are_fit_statements n x j (Continue p k) = j.continues && are_fit_statements n x j k
  are_fit_statements n x j (Return p a k) = (j.returns && is_fit_some n x a) && are_fit_statements n x j k

  pub are_fit_arms : FileNames → FunctionExtent → Jumps → Arms → Bool
  are_fit_arms n x j no_arms = true
  are_fit_arms n x j (arm_then labels t rest) =
      (list_all is_label_word labels && are_fit_statements n x j t) && are_fit_arms n x j rest

-- ---- functions

abbrev pub function_extent : TypedFunction → FunctionExtent
function_extent f = record { variables = f.variables; frame = f.frame }

-- a body may return, but for that of main
abbrev pub body_jumps : Bool → Jumps
body_jumps returns = record { breaks = false; continues = false; returns = returns }

-- its frame and its variables have room for its parameters
abbrev pub has_parameters : FileParts → TypedFunction → Bool
has_parameters file f =
    nat_eq (length f.parameters) (length (parameter_types (tables_of file) f.routine))
    && ((nat_eq (f.frame % 4) 0 && nat_le (1 + length f.parameters) f.variables) && list_all (is_sound_slot f.frame) f.parameters)

abbrev pub is_fit_function : FileParts → FileNames → TypedFunction → Bool
is_fit_function file n f =
    let main = is_called_main file f.routine in
    has_parameters file f && ((not main || nat_eq (length f.parameters) 0)
    && are_fit_statements n (function_extent f) (body_jumps (not main)) (view_statements f.body))
