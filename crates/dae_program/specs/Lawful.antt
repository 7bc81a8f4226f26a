-- The test that each program in memory passes, so that what lowers it has no condition: its variables are below their number,
-- and variable 0 is set by a return alone; a call names a function that is there, with as many arguments as that has
-- parameters; nobody calls main, which has no parameters and no return; a break stands in a loop or a switch, and a continue
-- in a loop; each access that isn't checked is one of an object by name, which lies in memory, at a multiple of its width; all
-- numbers are words, and what a format prints itself are bytes; and each variable is set before it is read.
use Rattle.std.specs.Prelude.{ℕ, suc, ◌+◌, ◌%◌, ◌^◌, Bool, true, false, not, ◌&&◌, nat_eq, nat_lt, nat_le, List, [], ◌∷◌, length, slice_get, Option, Some, None}
use Rattle.std.specs.List.{list_all}
use Rattle.dae_base.specs.Words.{plus, size, width_of}
use Rattle.dae_base.specs.declared.Width.{Width}
use Rattle.dae_meaning.specs.declared.Operator.{Operator}
use Rattle.dae_meaning.specs.declared.Operator.TheVariants.{Add}
use Rattle.dae_program.specs.declared.program.Function.{Function}
use Rattle.dae_program.specs.declared.program.Links.{Links}
use Rattle.dae_program.specs.declared.program.FrameSlot.{FrameSlot}
use Rattle.dae_program.specs.declared.statements.FormatPiece.{FormatPiece}
use Rattle.dae_program.specs.declared.statements.FormatPiece.TheVariants as piece
use Rattle.dae_program.specs.Switches.{count_arms}
use Rattle.dae_program.specs.Trees as tree
use Rattle.dae_program.specs.Trees.{Expression, Target, Expressions, Setting, Statements, Arms, Number, Address, Frame, Variable, Read, Convert, Not, Binary, Compare, And, Or, Conditional, Comma, Assign, Update, Step, Call, Putchar, Exit, Abort, InVariable, AtAddress, no_expressions, expression_then, Done, Evaluate, Initialise, Print, If, Loop, Do, Switch, Break, Continue, Return, no_arms, arm_then}
use Rattle.dae_program.specs.Resolved.{function_in}
use Rattle.dae_program.specs.SetFirst.{is_set_first}

abbrev pub is_word : ℕ → Bool
is_word k = nat_lt k (2 ^ 32)

-- where a function stands: how many variables it has, how many parameters the functions of its file have that are there, the
-- addresses of its file's objects, and how many bytes the memory and its frame have
pub record FunctionBounds : Type 0 where
  pub variables : ℕ
  pub parameters : ℕ → Option ℕ
  pub address : ℕ → ℕ
  pub memory : ℕ
  pub frame : ℕ

-- ---- objects by name

abbrev pub is_good : Width → ℕ → ℕ → Bool
is_good width x memory = nat_eq (x % size width) 0 && (nat_le 16 x && nat_le (x + size width) memory)

abbrev pub fits_frame : Width → ℕ → ℕ → Bool
fits_frame width offset frame = nat_eq (offset % size width) 0 && nat_le (offset + size width) frame

abbrev pub adds : Operator → Bool
adds Add = true
adds operator = false

abbrev pub number_of : Expression → Option ℕ
number_of (Number k) = Some k
number_of e = None

abbrev pub if_number : Option ℕ → (ℕ → Bool) → Bool
if_number None test = false
if_number (Some k) test = test k

-- an object of a name, k bytes further; the name may stand behind `,` and in both branches of `?:`
abbrev pub is_named : FunctionBounds → Width → ℕ → Expression → Bool
is_named b width k (Address object offset) = is_good width (plus (b.address object) (plus offset k)) b.memory
is_named b width k (Frame p offset) = fits_frame width (plus offset k) b.frame
is_named b width k (Binary p operator x y) = adds operator && if_number (number_of y) (λ j. is_named b width (plus j k) x)
is_named b width k (Conditional p x y z) = is_named b width k y && is_named b width k z
is_named b width k (Comma x y) = is_named b width k y
is_named b width k (Number j) = false
is_named b width k (Variable p v) = false
is_named b width k (Read p kind checked x) = false
is_named b width k (Convert p kind x) = false
is_named b width k (Not p x) = false
is_named b width k (Compare p comparison turned x y) = false
is_named b width k (And p x y) = false
is_named b width k (Or p x y) = false
is_named b width k (Assign p kind t x) = false
is_named b width k (Update p kind t operator x) = false
is_named b width k (Step p kind t change new) = false
is_named b width k (Call p f xs) = false
is_named b width k (Putchar p x) = false
is_named b width k (Exit p x) = false
is_named b width k (Abort p) = false

abbrev pub is_checked_or_named : FunctionBounds → Bool → Width → Expression → Bool
is_checked_or_named b true width x = true
is_checked_or_named b false width x = is_named b width 0 x

-- ---- expressions

abbrev pub count : Expressions → ℕ
count no_expressions = 0
count (expression_then x xs) = suc (count xs)

-- so many arguments for a function with so many parameters, if it is there
abbrev pub takes : Option ℕ → ℕ → Bool
takes None arguments = false
takes (Some parameters) arguments = nat_eq arguments parameters

abbrev mutual
  pub is_sound : FunctionBounds → Expression → Bool
  is_sound b (Number k) = is_word k
  is_sound b (Address object offset) = is_word offset
  is_sound b (Frame p offset) = is_word offset
  is_sound b (Variable p v) = nat_lt v b.variables
  is_sound b (Read p kind checked x) = is_checked_or_named b checked (width_of kind) x && is_sound b x
  is_sound b (Convert p kind x) = is_sound b x
  is_sound b (Not p x) = is_sound b x
  is_sound b (Binary p operator x y) = is_sound b x && is_sound b y
  is_sound b (Compare p comparison turned x y) = is_sound b x && is_sound b y
  is_sound b (And p x y) = is_sound b x && is_sound b y
  is_sound b (Or p x y) = is_sound b x && is_sound b y
  is_sound b (Conditional p x y z) = is_sound b x && (is_sound b y && is_sound b z)
  is_sound b (Comma x y) = is_sound b x && is_sound b y
  is_sound b (Assign p kind t x) = is_sound_target b (width_of kind) t && is_sound b x
  is_sound b (Update p kind t operator x) = is_sound_target b (width_of kind) t && is_sound b x
  is_sound b (Step p kind t change new) = is_sound_target b (width_of kind) t && is_word change
  is_sound b (Call p f xs) = takes (b.parameters f) (count xs) && are_sound b xs
  is_sound b (Putchar p x) = is_sound b x
  is_sound b (Exit p x) = is_sound b x
  is_sound b (Abort p) = true

  pub is_sound_target : FunctionBounds → Width → Target → Bool
  is_sound_target b width (InVariable v) = nat_lt 0 v && nat_lt v b.variables
  is_sound_target b width (AtAddress checked x) = is_checked_or_named b checked width x && is_sound b x

  pub are_sound : FunctionBounds → Expressions → Bool
  are_sound b no_expressions = true
  are_sound b (expression_then x xs) = is_sound b x && are_sound b xs

abbrev pub is_sound_some : FunctionBounds → Option Expression → Bool
is_sound_some b None = true
is_sound_some b (Some x) = is_sound b x

-- ---- statements

abbrev pub are_sound_items : FunctionBounds → List Setting → Bool
are_sound_items b [] = true
are_sound_items b (item ∷ items) =
    (is_word item.offset && fits_frame item.width item.offset b.frame) && (is_sound b item.value && are_sound_items b items)

abbrev pub is_label_word : Option ℕ → Bool
is_label_word None = true
is_label_word (Some k) = is_word k

abbrev mutual
  pub are_sound_statements : FunctionBounds → Statements → Bool
  are_sound_statements b Done = true
  are_sound_statements b (Evaluate p x k) = is_sound b x && are_sound_statements b k
  are_sound_statements b (Initialise p offset size items k) =
      ((is_word offset && is_word size) && nat_le (offset + size) b.frame) && (are_sound_items b items && are_sound_statements b k)
  are_sound_statements b (Print p xs pieces k) = are_sound b xs && are_sound_statements b k
  are_sound_statements b (If p x t u k) =
      is_sound b x && (are_sound_statements b t && (are_sound_statements b u && are_sound_statements b k))
  are_sound_statements b (Loop p test body step k) =
      is_sound_some b test && (are_sound_statements b body && (is_sound_some b step && are_sound_statements b k))
  are_sound_statements b (Do p body test k) = are_sound_statements b body && (is_sound b test && are_sound_statements b k)
  are_sound_statements b (Switch p x arms k) =
      (is_sound b x && is_word (count_arms arms)) && (are_sound_arms b arms && are_sound_statements b k)
  are_sound_statements b (Break p k) = are_sound_statements b k
  are_sound_statements b (Continue p k) = are_sound_statements b k
  are_sound_statements b (Return p x k) = is_sound_some b x && are_sound_statements b k

  pub are_sound_arms : FunctionBounds → Arms → Bool
  are_sound_arms b no_arms = true
  are_sound_arms b (arm_then labels t rest) = list_all is_label_word labels && (are_sound_statements b t && are_sound_arms b rest)

-- whether a break, a continue or a return may stand here
abbrev mutual
  pub are_inside : (breaks continues returns : Bool) → Statements → Bool
  are_inside breaks continues returns Done = true
  are_inside breaks continues returns (Evaluate p x k) = are_inside breaks continues returns k
  are_inside breaks continues returns (Initialise p offset size items k) = are_inside breaks continues returns k
  are_inside breaks continues returns (Print p xs pieces k) = are_inside breaks continues returns k
  are_inside breaks continues returns (If p x t u k) =
      are_inside breaks continues returns t && (are_inside breaks continues returns u && are_inside breaks continues returns k)
  are_inside breaks continues returns (Loop p test body step k) = are_inside true true returns body && are_inside breaks continues returns k
  are_inside breaks continues returns (Do p body test k) = are_inside true true returns body && are_inside breaks continues returns k
  are_inside breaks continues returns (Switch p x arms k) = are_arms_inside continues returns arms && are_inside breaks continues returns k
  are_inside breaks continues returns (Break p k) = breaks && are_inside breaks continues returns k
  are_inside breaks continues returns (Continue p k) = continues && are_inside breaks continues returns k
  are_inside breaks continues returns (Return p x k) = returns && are_inside breaks continues returns k

  pub are_arms_inside : (continues returns : Bool) → Arms → Bool
  are_arms_inside continues returns no_arms = true
  are_arms_inside continues returns (arm_then labels t rest) = are_inside true continues returns t && are_arms_inside continues returns rest

-- ---- formats

abbrev pub is_byte : FormatPiece → Bool
is_byte (piece.Byte b) = nat_lt b (2 ^ 8)
is_byte (piece.Word spelling k) = true
is_byte (piece.String k) = true

abbrev mutual
  pub prints_bytes : Statements → Bool
  prints_bytes Done = true
  prints_bytes (Evaluate p x k) = prints_bytes k
  prints_bytes (Initialise p offset size items k) = prints_bytes k
  prints_bytes (Print p xs pieces k) = list_all is_byte pieces && prints_bytes k
  prints_bytes (If p x t u k) = prints_bytes t && (prints_bytes u && prints_bytes k)
  prints_bytes (Loop p test body step k) = prints_bytes body && prints_bytes k
  prints_bytes (Do p body test k) = prints_bytes body && prints_bytes k
  prints_bytes (Switch p x arms k) = arms_print_bytes arms && prints_bytes k
  prints_bytes (Break p k) = prints_bytes k
  prints_bytes (Continue p k) = prints_bytes k
  prints_bytes (Return p x k) = prints_bytes k

  pub arms_print_bytes : Arms → Bool
  arms_print_bytes no_arms = true
  arms_print_bytes (arm_then labels t rest) = prints_bytes t && arms_print_bytes rest

-- ---- functions and programs

abbrev pub is_sound_slot : ℕ → Option FrameSlot → Bool
is_sound_slot frame None = true
is_sound_slot frame (Some slot) = is_word slot.offset && fits_frame slot.width slot.offset frame

-- of a function that may return or not
abbrev pub is_lawful_body : (memory variables : ℕ) → (ℕ → Option ℕ) → (returns : Bool) → tree.Function → Bool
is_lawful_body memory variables parameters returns f =
    ((nat_eq (f.frame % 4) 0 && nat_le (1 + length f.parameters) variables) && (list_all (is_sound_slot f.frame) f.parameters
    && are_sound_statements (record { variables = variables; parameters = parameters; address = f.address; memory = memory; frame = f.frame }) f.body))
    && are_inside false false returns f.body

abbrev pub parameter_count : Option Function → Option ℕ
parameter_count None = None
parameter_count (Some f) = Some (length f.parameters)

abbrev pub is_lawful_in : (memory : ℕ) → List Links → List Function → (returns : Bool) → Function → Bool
is_lawful_in memory links functions returns f =
    let g = function_in (length functions) links (Some f) in
    is_lawful_body memory f.variables (λ k. parameter_count (slice_get functions (g.callee k))) returns g

-- no function of a file is main
abbrev pub spares : ℕ → Links → Bool
spares main links = list_all (λ (f : ℕ). not (nat_eq f main)) links.functions

-- main is there, without parameters, and without a return
abbrev pub is_main : (memory : ℕ) → List Links → List Function → Option Function → Bool
is_main memory links functions None = false
is_main memory links functions (Some f) = nat_eq (length f.parameters) 0 && is_lawful_in memory links functions false f

-- the data end before frames begin, which end before the memory does, of at most 2 ^ 26 bytes
abbrev pub is_lawful_memory : (size frames bytes : ℕ) → Bool
is_lawful_memory size frames bytes =
    (nat_eq (frames % 4) 0 && nat_le (16 + bytes) frames) && (nat_le frames size && nat_le size (2 ^ 26))

abbrev pub is_well_placed : (size frames : ℕ) → List ℕ → List Links → List Function → (main : ℕ) → Bool
is_well_placed size frames bytes links functions main =
    (is_lawful_memory size frames (length bytes) && is_main size links functions (slice_get functions main)) && (list_all (spares main) links
    && list_all (is_lawful_in size links functions true) functions)

-- each variable is set before it is read, and what a format prints itself are bytes
abbrev pub is_ready : List Links → List Function → Function → Bool
is_ready links functions f = let g = function_in (length functions) links (Some f) in is_set_first g && prints_bytes g.body

abbrev pub is_lawful : (size frames : ℕ) → List ℕ → List Links → List Function → (main : ℕ) → Bool
is_lawful size frames bytes links functions main =
    is_well_placed size frames bytes links functions main && list_all (is_ready links functions) functions
