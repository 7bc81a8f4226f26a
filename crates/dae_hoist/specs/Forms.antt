-- Whole forms in which variables hold values for loops: what `hoist_invariants` gives, and what is true of it.
use Rattle.std.specs.Prelude.{◌≡◌, ◌⊎◌, ℕ, ◌≤◌, true, List, [], ◌∷◌, slice_get, Some}
use Rattle.std.specs.List.{AllByRecursion}
use Rattle.dae_meaning.specs.Alike.{Alike, Same}
use Rattle.dae_meaning.specs.Variables.{Env, VariableSet}
use Rattle.dae_ir.specs.Form.{form_of}
use Rattle.dae_ir.specs.Classes.{AreAddressesClosed, classes_in, classes_of, rows_behind}
use Rattle.dae_ir.specs.Programs.{outcome, program_of}
use Rattle.dae_ir.specs.Scope.{IsScoped}
use Rattle.dae_ir.specs.SetFirst.{IsFunctionSetFirst}
use Rattle.dae_ir.specs.Sizes.{own_loads, conditions_a}
use Rattle.dae_ir.specs.declared.form.Function.{Function}
use Rattle.dae_ir.specs.declared.form.Ir.{Ir}
use Rattle.dae_ir.specs.declared.form.Statement.{Statement}
use Rattle.dae_ir.specs.declared.stream.Class.{Class}
use Rattle.dae_hoist.specs.Hoisted.{hoisted_code}
use Rattle.dae_hoist.specs.Kept.{Hoisting, IsKept, is_kept}

-- g is f in which variables hold values: those of c lead to addresses in f, and those of d in g
pub record IsHoistedFunction (c d : VariableSet) (f g : Function) : Type 0 where
  pub hoisting : Hoisting
  pub of_parameters : hoisting.parameters ≡ f.parameters
  pub of_variables : hoisting.variables ≡ f.variables
  pub of_sets : hoisting.sets ≡ c
  pub of_new_sets : hoisting.new_sets ≡ d
  pub name : g.name ≡ f.name
  pub parameters : g.parameters ≡ f.parameters
  pub variables : g.variables ≡ f.variables
  pub frame : g.frame ≡ f.frame
  pub first : (v : ℕ) → v ≤ f.parameters → is_kept hoisting v ≡ true
  pub kept : IsKept hoisting [] (form_of f.body)
  pub body : form_of g.body ≡ hoisted_code hoisting.holding (form_of f.body)

-- the function with other statements
abbrev pub with_statements : Function → List Statement → Function
with_statements f ss = record {
  name = f.name;
  parameters = f.parameters;
  variables = f.variables;
  frame = f.frame;
  body = ss;
}

-- a function in which no value may be held stays as it is
abbrev pub IsHoistedOrSame : (c d : VariableSet) (f g : Function) → Type 0
IsHoistedOrSame c d f g = ((g ≡ f) × (d ≡ c)) ⊎ IsHoistedFunction c d f g

abbrev pub addresses_in : List Class → VariableSet
addresses_in row = let c = classes_in row in c.s

abbrev pub first_addresses : List (List Class) → VariableSet
first_addresses tables = let c = classes_of tables 0 in c.s

-- each by its row of the tables, for which there is a new row
abbrev pub AreHoistedFunctions : (tables rows : List (List Class)) → (fs gs : List Function) → Type 0
AreHoistedFunctions tables [] [] [] = Unit {0}
AreHoistedFunctions tables [] [] (g ∷ gs) = ⊥
AreHoistedFunctions tables [] (f ∷ fs) gs = ⊥
AreHoistedFunctions tables (row ∷ rows) [] gs = ⊥
AreHoistedFunctions tables (row ∷ rows) (f ∷ fs) [] = ⊥
AreHoistedFunctions tables (row ∷ rows) (f ∷ fs) (g ∷ gs) =
    IsHoistedOrSame (first_addresses tables) (addresses_in row) f g
    × AreHoistedFunctions (rows_behind tables) rows fs gs

pub record IsHoistOf (tables rows : List (List Class)) (ir new : Ir) : Type 0 where
  pub memory : new.memory ≡ ir.memory
  pub frames : new.frames ≡ ir.frames
  pub calls : new.calls ≡ ir.calls
  pub main : new.main ≡ ir.main
  pub functions : AreHoistedFunctions tables rows ir.functions new.functions

-- ---- what is true of it

abbrev pub EndsEqual : Env → Env → Type 0
EndsEqual e f = e 0 ≡ f 0

-- It ends as the form does, under each bound on turns, in the same world and with the same result. It is as well made, and sets each
-- variable before it reads it. If the tables' sets keep what leads to addresses in the form, the new rows' sets do so in it, with as
-- many loads into variables that lead to addresses, and as many conditions that A decides.
pub record KeepsWithRows (tables rows : List (List Class)) (ir new : Ir) : Type 0 where
  pub meaning : (n : ℕ) (memory : List ℕ)
      → Alike EndsEqual Same (outcome ir n memory) (outcome new n memory)
  pub scoped : IsScoped new
  pub first : AllByRecursion IsFunctionSetFirst ir.functions
      → AllByRecursion IsFunctionSetFirst new.functions
  pub closed : AreAddressesClosed (program_of ir) (λ k. (classes_of tables k).s)
      → AreAddressesClosed (program_of new) (λ k. (classes_of rows k).s)
  pub same : (k : ℕ) (f g : Function) → slice_get ir.functions k ≡ Some f
      → slice_get new.functions k ≡ Some g
      → (own_loads (classes_of rows k) (form_of g.body) ≡ own_loads (classes_of tables k) (form_of f.body))
      × (conditions_a (classes_of rows k) (form_of g.body) ≡ conditions_a (classes_of tables k) (form_of f.body))

abbrev pub FormsAreHoisted : Type 0
FormsAreHoisted =
    (tables rows : List (List Class)) (ir new : Ir) → IsScoped ir → IsHoistOf tables rows ir new
    → KeepsWithRows tables rows ir new
