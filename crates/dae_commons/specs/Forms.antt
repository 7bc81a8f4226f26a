-- Whole forms without their common subexpressions: what `eliminate_commons` gives, and what is true of it.
use Rattle.std.specs.Prelude.{◌≡◌, ℕ, List, [], ◌∷◌, slice_get, Some}
use Rattle.std.specs.List.{AllByRecursion}
use Rattle.dae_ir.specs.Form.{form_of}
use Rattle.dae_ir.specs.Classes.{Classes, AreAddressesClosed, classes_of, rows_behind}
use Rattle.dae_ir.specs.Programs.{outcome, program_of}
use Rattle.dae_ir.specs.Scope.{IsScoped}
use Rattle.dae_ir.specs.SetFirst.{IsFunctionSetFirst}
use Rattle.dae_ir.specs.Sizes.{own_loads, conditions_a}
use Rattle.dae_ir.specs.declared.form.Function.{Function}
use Rattle.dae_ir.specs.declared.form.Ir.{Ir}
use Rattle.dae_ir.specs.declared.stream.Class.{Class}
use Rattle.dae_commons.specs.Commoned.{commoned_code}

-- g is f without its common subexpressions, by these sets of its variables
pub record IsCommonedFunction (c : Classes) (f g : Function) : Type 0 where
  pub name : g.name ≡ f.name
  pub parameters : g.parameters ≡ f.parameters
  pub variables : g.variables ≡ f.variables
  pub frame : g.frame ≡ f.frame
  pub body : form_of g.body ≡ commoned_code c [] (form_of f.body)

-- each by its row of the tables
abbrev pub AreCommonedFunctions : List (List Class) → List Function → List Function → Type 0
AreCommonedFunctions tables [] [] = Unit {0}
AreCommonedFunctions tables [] (g ∷ gs) = ⊥
AreCommonedFunctions tables (f ∷ fs) [] = ⊥
AreCommonedFunctions tables (f ∷ fs) (g ∷ gs) =
    IsCommonedFunction (classes_of tables 0) f g × AreCommonedFunctions (rows_behind tables) fs gs

pub record IsCommoningOf (tables : List (List Class)) (ir new : Ir) : Type 0 where
  pub memory : new.memory ≡ ir.memory
  pub frames : new.frames ≡ ir.frames
  pub calls : new.calls ≡ ir.calls
  pub main : new.main ≡ ir.main
  pub functions : AreCommonedFunctions tables ir.functions new.functions

-- ---- what is true of it

-- It ends just as the form does, under each bound on turns. It is as well made, and sets each variable before it reads it. If the
-- tables' sets keep what leads to addresses in the form, they do so in it, with as many loads into variables that lead to addresses,
-- and as many conditions that A decides.
pub record KeepsOutcomes (tables : List (List Class)) (ir new : Ir) : Type 0 where
  pub outcomes : (n : ℕ) (memory : List ℕ) → outcome new n memory ≡ outcome ir n memory
  pub scoped : IsScoped ir → IsScoped new
  pub first : AllByRecursion IsFunctionSetFirst ir.functions
      → AllByRecursion IsFunctionSetFirst new.functions
  pub closed : AreAddressesClosed (program_of ir) (λ k. (classes_of tables k).s)
      → AreAddressesClosed (program_of new) (λ k. (classes_of tables k).s)
  pub same : (k : ℕ) (f g : Function) → slice_get ir.functions k ≡ Some f
      → slice_get new.functions k ≡ Some g
      → (own_loads (classes_of tables k) (form_of g.body)
      ≡ own_loads (classes_of tables k) (form_of f.body))
      × (conditions_a (classes_of tables k) (form_of g.body)
      ≡ conditions_a (classes_of tables k) (form_of f.body))

abbrev pub FormsAreCommoned : Type 0
FormsAreCommoned =
    (tables : List (List Class)) (ir new : Ir) → IsCommoningOf tables ir new
    → KeepsOutcomes tables ir new
