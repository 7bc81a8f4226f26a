-- What is asked of code in which variables hold values. Nothing reads such a variable, loads into it or calls for it. What it holds
-- is made of variables that are set before, and of those that lead to addresses where it does itself. All other variables lead to
-- addresses as before.
use Rattle.std.specs.Prelude.{◌≡◌, ℕ, Bool, true, false, ◌&&◌, ◌||◌, nat_eq, List, [], ◌∷◌, ◌++◌, Option, Some, None}
use Rattle.std.specs.Bool.{beq}
use Rattle.dae_meaning.specs.Variables.{VariableSet, parameters_set}
use Rattle.dae_ir.specs.Code.{Done, Do, If, Loop}
use Rattle.dae_ir.specs.Form.{Form}
use Rattle.dae_ir.specs.Classes.{has, has_check, has_test, has_value}
use Rattle.dae_ir.specs.Scope.{ValueIn}
use Rattle.dae_ir.specs.SetFirst.{AllRead}
use Rattle.dae_ir.specs.declared.form.Item.{Item}
use Rattle.dae_ir.specs.declared.form.Item.TheVariants.{Assign, Load, Store, Print, Expect, Break, Continue, Call, Return, Halt}
use Rattle.dae_ir.specs.declared.form.Value.{Value}
use Rattle.dae_hoist.specs.Hoisted.{Holding}

-- A function has so many parameters and variables. These variables hold values; those of `sets` lead to addresses before, and those
-- of `new_sets` where the values are held.
pub record Hoisting : Type 0 where
  pub parameters : ℕ
  pub variables : ℕ
  pub holding : Holding
  pub sets : VariableSet
  pub new_sets : VariableSet

abbrev pub has_none : Option Value → Bool
has_none None = true
has_none (Some x) = false

-- the variable holds no such value, and leads to addresses as before
abbrev pub is_kept : Hoisting → VariableSet
is_kept t v = has_none (t.holding v) && beq (t.sets v) (t.new_sets v)

abbrev pub is_listed : List ℕ → VariableSet
is_listed [] v = false
is_listed (u ∷ us) v = nat_eq u v || is_listed us v

-- set before: a parameter, or one of these
abbrev pub is_set : Hoisting → List ℕ → VariableSet
is_set t us v = parameters_set t.parameters v || is_listed us v

-- what is asked of a variable that is assigned
abbrev pub Fits : Hoisting → List ℕ → ℕ → Option Value → Type 0
Fits t us v None = t.sets v ≡ t.new_sets v
Fits t us v (Some x) =
    (has_value (is_set t us) x ≡ true) × ValueIn t.variables x
    × (t.new_sets v ≡ true → has_value t.new_sets x ≡ true)

abbrev pub ItemKept : Hoisting → List ℕ → Item → Type 0
ItemKept t us (Assign v x) = (has_value (is_kept t) x ≡ true) × Fits t us v (t.holding v)
ItemKept t us (Load v kind x) = (is_kept t v ≡ true) × (has (is_kept t) x ≡ true)
ItemKept t us (Store width x y) = (has (is_kept t) x ≡ true) × (has (is_kept t) y ≡ true)
ItemKept t us (Print spelling x) = has (is_kept t) x ≡ true
ItemKept t us (Expect check) = has_check (is_kept t) check ≡ true
ItemKept t us Break = Unit {0}
ItemKept t us Continue = Unit {0}
ItemKept t us (Call v f xs) = (is_kept t v ≡ true) × AllRead (is_kept t) xs
ItemKept t us (Return x) = has (is_kept t) x ≡ true
ItemKept t us (Halt x) = has (is_kept t) x ≡ true

-- what is set behind an item in any case
abbrev pub set_behind : List ℕ → Item → List ℕ
set_behind us (Assign v x) = us ++ v ∷ []
set_behind us (Load v kind x) = us ++ v ∷ []
set_behind us (Store width x y) = us
set_behind us (Print spelling x) = us
set_behind us (Expect check) = us
set_behind us Break = us
set_behind us Continue = us
set_behind us (Call v f xs) = us ++ v ∷ []
set_behind us (Return x) = us
set_behind us (Halt x) = us

-- where these variables are set before the code
abbrev pub IsKept : Hoisting → List ℕ → Form → Type 0
IsKept t us Done = Unit {0}
IsKept t us (Do place item k) = ItemKept t us item × IsKept t (set_behind us item) k
IsKept t us (If place test x y k) =
    (has_test (is_kept t) test ≡ true) × IsKept t us x × IsKept t us y × IsKept t us k
IsKept t us (Loop place x y k) = IsKept t us x × IsKept t us y × IsKept t us k
