-- Whole forms in which conditions are threaded: what `thread_conditions` gives, and what is true of it.
use Rattle.std.specs.Prelude.{◌≡◌, ℕ, ◌≤◌, List, [], ◌∷◌, slice_get, Some}
use Rattle.std.specs.List.{AllByRecursion}
use Rattle.dae_meaning.specs.Worlds.{World}
use Rattle.dae_meaning.specs.Alike.{Alike}
use Rattle.dae_ir.specs.Form.{form_of}
use Rattle.dae_ir.specs.Classes.{Classes, AreAddressesClosed}
use Rattle.dae_ir.specs.Laws.{SameVariables}
use Rattle.dae_ir.specs.Programs.{outcome, program_of}
use Rattle.dae_ir.specs.Scope.{IsScoped}
use Rattle.dae_ir.specs.SetFirst.{IsFunctionSetFirst}
use Rattle.dae_ir.specs.Sizes.{own_loads, conditions_a}
use Rattle.dae_ir.specs.declared.form.Function.{Function}
use Rattle.dae_ir.specs.declared.form.Ir.{Ir}
use Rattle.dae_threads.specs.Threaded.{IsThreaded}

-- g is f with conditions threaded
pub record IsThreadedFunction (f g : Function) : Type 0 where
  pub name : g.name ≡ f.name
  pub parameters : g.parameters ≡ f.parameters
  pub variables : g.variables ≡ f.variables
  pub frame : g.frame ≡ f.frame
  pub body : IsThreaded (form_of f.body) (form_of g.body)

abbrev pub AreThreadedFunctions : List Function → List Function → Type 0
AreThreadedFunctions [] [] = Unit {0}
AreThreadedFunctions [] (g ∷ gs) = ⊥
AreThreadedFunctions (f ∷ fs) [] = ⊥
AreThreadedFunctions (f ∷ fs) (g ∷ gs) = IsThreadedFunction f g × AreThreadedFunctions fs gs

pub record IsThreadingOf (ir new : Ir) : Type 0 where
  pub memory : new.memory ≡ ir.memory
  pub frames : new.frames ≡ ir.frames
  pub calls : new.calls ≡ ir.calls
  pub main : new.main ≡ ir.main
  pub functions : AreThreadedFunctions ir.functions new.functions

-- ---- what is true of it

-- so many items were executed
abbrev pub having_done : ℕ → World → World
having_done n w = record w { items = n }

-- the second world is the first, in which no more items were executed
pub record HasNoMoreItems (w u : World) : Type 0 where
  pub items : u.items ≤ w.items
  pub rest : u ≡ having_done u.items w

-- It ends as the form does, under each bound on turns, with the same variables, in the same world but for the number of items, of
-- which there are no more. It is as well made, and sets each variable before it reads it. What keeps what leads to addresses in the
-- form does so in it, and by that no function has more loads into variables that lead to addresses, nor more conditions that A
-- decides.
pub record KeepsWithFewerItems (ir new : Ir) : Type 0 where
  pub meaning : (n : ℕ) (memory : List ℕ)
      → Alike SameVariables HasNoMoreItems (outcome ir n memory) (outcome new n memory)
  pub scoped : IsScoped new
  pub first : AllByRecursion IsFunctionSetFirst ir.functions
      → AllByRecursion IsFunctionSetFirst new.functions
  pub access : (of : ℕ → Classes) → AreAddressesClosed (program_of ir) (λ k. (of k).s)
      → AreAddressesClosed (program_of new) (λ k. (of k).s)
  pub counts : (c : Classes) (k : ℕ) (f g : Function)
      → slice_get ir.functions k ≡ Some f → slice_get new.functions k ≡ Some g
      → (own_loads c (form_of g.body) ≤ own_loads c (form_of f.body))
      × (conditions_a c (form_of g.body) ≤ conditions_a c (form_of f.body))

abbrev pub FormsAreThreaded : Type 0
FormsAreThreaded = (ir new : Ir) → IsScoped ir → IsThreadingOf ir new → KeepsWithFewerItems ir new
