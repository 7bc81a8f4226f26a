-- Whether each variable is set before it is read (dae_program's SetFirst), by the flags of the variables that are set: what
-- comes behind an expression or a statement, or nothing where a variable is read that isn't set, or one is set that isn't there.
use Rattle.std.specs.Prelude.{◌≡◌, Vec, ℕ, zero, suc, is_some, nat_lt, nat_le, Bool, true, false, ◌&&◌, List, [], ◌∷◌, Option, Some, None, slice_get, slice_set, if◌then◌else◌, length, replicate}
use Rattle.dae_meaning.specs.Variables.{VariableSet}
use Rattle.dae_program.specs.Views.{statement_then, view_statements}
use Rattle.dae_program.specs.declared.statements.Statement.{Statement}
use Rattle.std.specs.declared.alloc.Global.{Global}
use Rattle.dae_types_typed.specs.declared.files.TypedFunction.{TypedFunction}
use Rattle.dae_program.specs.Trees.{Expression, Target, Expressions, Setting, Statements, Arms, Number, Address, Frame, Variable, Read, Convert, Not, Binary, Compare, And, Or, Conditional, Comma, Assign, Update, Step, Call, Putchar, Exit, Abort, InVariable, AtAddress, no_expressions, expression_then, Done, Evaluate, Initialise, Print, If, Loop, Do, Switch, Break, Continue, Return, no_arms, arm_then}

abbrev pub flag_or : Option Bool → Bool
flag_or None = false
flag_or (Some b) = b

-- the variables that are set by their flags
abbrev pub flagged : List Bool → VariableSet
flagged d v = flag_or (slice_get d v)

-- ---- steps, each on what is set before it

abbrev pub Flagged : Type 0
Flagged = Option (List Bool)

infixl 10 ◌⊳⊳◌
abbrev pub ◌⊳⊳◌ : Flagged → (List Bool → Flagged) → Flagged
None ⊳⊳ f = None
Some d ⊳⊳ f = f d

-- where these flags are set before, those of a vector are set behind
abbrev pub Sets : (List Bool → Flagged) → List Bool → Vec Bool Global → Type 0
Sets f before after = f before ≡ Some after.items

-- a variable is read
abbrev pub read_variable : ℕ → List Bool → Flagged
read_variable v d = if flagged d v then Some d else None

-- a variable is set
abbrev pub set_variable : ℕ → List Bool → Flagged
set_variable v d = Some (slice_set d v true)

-- all that comes behind what goes elsewhere
abbrev pub all_flags : List Bool → List Bool
all_flags d = replicate (length d) true

abbrev pub meet : List Bool → List Bool → List Bool
meet (b ∷ bs) (c ∷ cs) = (b && c) ∷ meet bs cs
meet _ _ = []

-- what both ways set
abbrev pub both_ways : Flagged → Flagged → Flagged
both_ways r s = r ⊳⊳ λ c. s ⊳⊳ λ d. Some (meet c d)

-- what is set on a way that may not be taken doesn't count
abbrev pub aside : Flagged → List Bool → Flagged
aside r d = r ⊳⊳ λ _. Some d

-- ---- expressions

abbrev mutual
  pub reading : Expression → List Bool → Flagged
  reading (Number k) d = Some d
  reading (Address object offset) d = Some d
  reading (Frame p offset) d = Some d
  reading (Variable p v) d = read_variable v d
  reading (Read p kind checked a) d = reading a d
  reading (Convert p kind a) d = reading a d
  reading (Not p a) d = reading a d
  reading (Binary p operator a b) d = reading a d ⊳⊳ reading b
  reading (Compare p comparison turned a b) d = reading a d ⊳⊳ reading b
  reading (And p a b) d = reading a d ⊳⊳ λ d. aside (reading b d) d
  reading (Or p a b) d = reading a d ⊳⊳ λ d. aside (reading b d) d
  reading (Conditional p a b c) d = reading a d ⊳⊳ λ d. both_ways (reading b d) (reading c d)
  reading (Comma a b) d = reading a d ⊳⊳ reading b
  reading (Assign p kind t a) d = reading_target t d ⊳⊳ λ d. reading a d ⊳⊳ setting_target t
  reading (Update p kind t operator a) d = reading_target t d ⊳⊳ λ d. reading_old t d ⊳⊳ λ d. reading a d ⊳⊳ setting_target t
  reading (Step p kind t change new) d = reading_target t d ⊳⊳ reading_old t
  reading (Call p f xs) d = reading_all xs d
  reading (Putchar p a) d = reading a d
  reading (Exit p a) d = reading a d ⊳⊳ λ d. Some (all_flags d)
  reading (Abort p) d = Some d

  -- the address of a target
  pub reading_target : Target → List Bool → Flagged
  reading_target (InVariable v) d = Some d
  reading_target (AtAddress checked a) d = reading a d

  -- its old value
  pub reading_old : Target → List Bool → Flagged
  reading_old (InVariable v) d = read_variable v d
  reading_old (AtAddress checked a) d = Some d

  pub setting_target : Target → List Bool → Flagged
  setting_target (InVariable v) d = set_variable v d
  setting_target (AtAddress checked a) d = Some d

  pub reading_all : Expressions → List Bool → Flagged
  reading_all no_expressions d = Some d
  reading_all (expression_then a xs) d = reading a d ⊳⊳ reading_all xs

abbrev pub reading_some : Option Expression → List Bool → Flagged
reading_some None d = Some d
reading_some (Some a) d = reading a d

-- an expression that may not be evaluated
abbrev pub reading_aside : Expression → List Bool → Flagged
reading_aside a d = aside (reading a d) d

-- ---- statements

abbrev pub reading_items : List Setting → List Bool → Flagged
reading_items [] d = Some d
reading_items (item ∷ items) d = reading item.value d ⊳⊳ reading_items items

abbrev mutual
  pub reading_statements : Statements → List Bool → Flagged
  reading_statements Done d = Some d
  reading_statements (Evaluate p a k) d = reading a d ⊳⊳ reading_statements k
  reading_statements (Initialise p offset bytes items k) d = reading_items items d ⊳⊳ reading_statements k
  reading_statements (Print p xs pieces k) d = reading_all xs d ⊳⊳ reading_statements k
  reading_statements (If p a t u k) d =
      (reading a d ⊳⊳ λ d. both_ways (reading_statements t d) (reading_statements u d)) ⊳⊳ reading_statements k
  reading_statements (Loop p test body step k) d =
      (aside (reading_some test d ⊳⊳ reading_statements body) d ⊳⊳ λ d. aside (reading_some step d) d) ⊳⊳ reading_statements k
  reading_statements (Do p body test k) d =
      (aside (reading_statements body d) d ⊳⊳ λ d. aside (reading test d) d) ⊳⊳ reading_statements k
  reading_statements (Switch p a arms k) d = (reading a d ⊳⊳ reading_arms arms) ⊳⊳ reading_statements k
  reading_statements (Break p k) d = reading_statements k (all_flags d)
  reading_statements (Continue p k) d = reading_statements k (all_flags d)
  reading_statements (Return p a k) d = (reading_some a d ⊳⊳ λ d. Some (all_flags d)) ⊳⊳ reading_statements k

  pub reading_arms : Arms → List Bool → Flagged
  reading_arms no_arms d = Some d
  reading_arms (arm_then labels t rest) d = aside (reading_statements t d) d ⊳⊳ reading_arms rest

-- a statement sets these flags, whatever stands behind it
abbrev pub LeadsOn : Statement → List Bool → Vec Bool Global → Type 0
LeadsOn s before after = (k : Statements) → reading_statements (statement_then s k) before ≡ reading_statements k after.items

-- ---- functions

-- the parameters are set at the entry
abbrev pub flags_from : (parameters variable count : ℕ) → List Bool
flags_from parameters v zero = []
flags_from parameters v (suc count) = (nat_lt 0 v && nat_le v parameters) ∷ flags_from parameters (suc v) count

abbrev pub first_flags : (parameters variables : ℕ) → List Bool
first_flags parameters variables = flags_from parameters 0 variables

abbrev pub is_reading_body : TypedFunction → Bool
is_reading_body f = is_some (reading_statements (view_statements f.body) (first_flags (length f.parameters) f.variables))
