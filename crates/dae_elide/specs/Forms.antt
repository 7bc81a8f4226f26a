-- Whole forms without the checks of places that are known to pass, and what is true of them.
use Rattle.std.specs.Prelude.{◌≡◌, ℕ, List, [], ◌∷◌, length, slice_get, Some}
use Rattle.std.specs.List.{AllByRecursion}
use Rattle.dae_base.specs.declared.Width.{Width}
use Rattle.dae_ir.specs.Form.{form_of}
use Rattle.dae_ir.specs.Classes.{VariableSet, Classes, AreAddressesClosed}
use Rattle.dae_ir.specs.Programs.{outcome, program_of}
use Rattle.dae_ir.specs.Scope.{IsScoped}
use Rattle.dae_ir.specs.SetFirst.{IsFunctionSetFirst}
use Rattle.dae_ir.specs.Sizes.{own_loads, conditions_a, form_size, tally}
use Rattle.dae_ir.specs.declared.form.Function.{Function}
use Rattle.dae_ir.specs.declared.form.Ir.{Ir}
use Rattle.dae_ir.specs.declared.form.Operand.TheVariants.{Variable}
use Rattle.dae_ir.specs.declared.form.Check.TheVariants.{Place}
use Rattle.dae_ir.specs.declared.form.Item.{Item}
use Rattle.dae_ir.specs.declared.form.Item.TheVariants.{Expect}
use Rattle.dae_ir.specs.declared.form.Test.{Test}
use Rattle.dae_select_walks.specs.Facts.{unknown}
use Rattle.dae_elide.specs.Elided.{itself, elided}

-- g is f without the checks of some variables that are known to pass, where common memory has so many addresses
pub record IsElidedFunction (memory : ℕ) (f g : Function) : Type 0 where
  pub chosen : VariableSet
  pub name : g.name ≡ f.name
  pub parameters : g.parameters ≡ f.parameters
  pub variables : g.variables ≡ f.variables
  pub frame : g.frame ≡ f.frame
  pub body : form_of g.body ≡ elided memory chosen unknown (form_of f.body)

abbrev pub AreElidedFunctions : ℕ → List Function → List Function → Type 0
AreElidedFunctions memory [] [] = Unit {0}
AreElidedFunctions memory [] (g ∷ gs) = ⊥
AreElidedFunctions memory (f ∷ fs) [] = ⊥
AreElidedFunctions memory (f ∷ fs) (g ∷ gs) = IsElidedFunction memory f g × AreElidedFunctions memory fs gs

pub record IsElisionOf (ir new : Ir) : Type 0 where
  pub memory : new.memory ≡ ir.memory
  pub frames : new.frames ≡ ir.frames
  pub calls : new.calls ≡ ir.calls
  pub main : new.main ≡ ir.main
  pub functions : AreElidedFunctions ir.memory ir.functions new.functions

-- In a memory as large as the form's it ends just as the form does, under each bound on turns. It is as well made, and sets each
-- variable before it reads it. What keeps what leads to addresses in the form does so in it, and by that each function has as many
-- loads into variables that lead to addresses, and as many conditions that A decides.
pub record KeepsOutcome (ir new : Ir) : Type 0 where
  pub meaning : (n : ℕ) (memory : List ℕ) → length memory ≡ ir.memory
      → outcome new n memory ≡ outcome ir n memory
  pub scoped : IsScoped new
  pub first : AllByRecursion IsFunctionSetFirst ir.functions
      → AllByRecursion IsFunctionSetFirst new.functions
  pub access : (of : ℕ → Classes) → AreAddressesClosed (program_of ir) (λ k. (of k).s)
      → AreAddressesClosed (program_of new) (λ k. (of k).s)
  pub counts : (c : Classes) (k : ℕ) (f g : Function)
      → slice_get ir.functions k ≡ Some f → slice_get new.functions k ≡ Some g
      → (own_loads c (form_of g.body) ≡ own_loads c (form_of f.body))
      × (conditions_a c (form_of g.body) ≡ conditions_a c (form_of f.body))

-- The code is as large, and what is counted alike in such a check and in a variable that is set to itself is the same number.
pub record StaysAsLarge (f g : Function) : Type 0 where
  pub variables : g.variables ≡ f.variables
  pub size : form_size (form_of g.body) ≡ form_size (form_of f.body)
  pub tallies : (count : Item → ℕ) (tests : Test → ℕ)
      → ((width : Width) (v : ℕ) → count (itself v) ≡ count (Expect (Place width (Variable v))))
      → tally count tests (form_of g.body) ≡ tally count tests (form_of f.body)

abbrev pub ElisionKeepsSizes : Type 0
ElisionKeepsSizes = (memory : ℕ) (f g : Function) → IsElidedFunction memory f g → StaysAsLarge f g

abbrev pub ChecksAreElided : Type 0
ChecksAreElided = (ir new : Ir) → IsScoped ir → IsElisionOf ir new → KeepsOutcome ir new
