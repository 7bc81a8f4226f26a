-- Whole forms whose loads are reused: what `reuse` gives.
use Rattle.std.specs.Prelude.{◌≡◌, ℕ, ◌+◌, ◌^◌, ◌≤◌, Bool, nat_lt, List, [], ◌∷◌, length, slice_get, Some}
use Rattle.std.specs.List.{AllByRecursion}
use Rattle.dae_meaning.specs.Alike.{Alike}
use Rattle.dae_ir.specs.Form.{form_of}
use Rattle.dae_ir.specs.Classes.{Classes, AreAddressesClosed, classes_of}
use Rattle.dae_ir.specs.Programs.{AreClassesOf, outcome, program_of}
use Rattle.dae_ir.specs.Scope.{IsScoped}
use Rattle.dae_ir.specs.SetFirst.{IsFunctionSetFirst}
use Rattle.dae_ir.specs.Sizes.{own_loads, conditions_a}
use Rattle.dae_ir.specs.declared.form.Function.{Function}
use Rattle.dae_ir.specs.declared.form.Ir.{Ir}
use Rattle.dae_ir.specs.declared.stream.Class.{Class}
use Rattle.dae_alias.specs.Stretches.{nothing, HasNoSecond}
use Rattle.dae_alias.specs.Reuse.{Holders, loads_in, reused}
use Rattle.dae_alias.specs.Laws.{Cheaper, SameResult, AreWithin, HasRepeated, HasOnlyRepeated, own_variables}

-- g is f with its loads reused: just the loads that are repeated have variables of their own, which are new
pub record IsReusedFunction (f g : Function) : Type 0 where
  pub holders : Holders
  pub name : g.name ≡ f.name
  pub parameters : g.parameters ≡ f.parameters
  pub frame : g.frame ≡ f.frame
  pub body : form_of g.body ≡ reused holders nothing [] 0 (form_of f.body)
  pub variables : g.variables ≡ f.variables + own_variables holders (form_of f.body)
  pub inside : AreWithin holders f.variables g.variables
  pub apart : (i j u : ℕ) → holders i ≡ Some u → holders j ≡ Some u → i ≡ j
  pub repeated : HasRepeated holders (form_of f.body)
  pub only : HasOnlyRepeated holders (form_of f.body)

-- words number the variables of a function, and one more for each load
abbrev pub is_reusable : Function → Bool
is_reusable f = nat_lt (f.variables + loads_in (form_of f.body)) (2 ^ 32)

abbrev pub AreReused : List Function → List Function → Type 0
AreReused [] [] = Unit {0}
AreReused [] (g ∷ gs) = ⊥
AreReused (f ∷ fs) [] = ⊥
AreReused (f ∷ fs) (g ∷ gs) = IsReusedFunction f g × AreReused fs gs

pub record IsReuseOf (ir new : Ir) : Type 0 where
  pub memory : new.memory ≡ ir.memory
  pub frames : new.frames ≡ ir.frames
  pub calls : new.calls ≡ ir.calls
  pub main : new.main ≡ ir.main
  pub functions : AreReused ir.functions new.functions

-- ---- what is true of it

-- It ends as the form does, under each bound on turns, with the same output, memory and status, the same number of stores and no
-- more loads, and at most one item more for each load. It is as well made, and sets each variable before it reads it. No stretch
-- holds two loads that are the same where each store between them is apart. By its least classes no function has more loads into
-- variables that lead to addresses, nor more conditions that A decides, than by any sets of the form before that keep what leads
-- to addresses, and so by that one's least classes.
pub record KeepsForm (ir new : Ir) : Type 0 where
  pub meaning : (n : ℕ) (memory : List ℕ) → length memory ≤ 2 ^ 32
      → Alike SameResult Cheaper (outcome ir n memory) (outcome new n memory)
  pub scoped : IsScoped new
  pub first : AllByRecursion IsFunctionSetFirst ir.functions
      → AllByRecursion IsFunctionSetFirst new.functions
  pub no_second : AllByRecursion (λ (g : Function). HasNoSecond (form_of g.body)) new.functions
  pub access : (of : ℕ → Classes) → AreAddressesClosed (program_of ir) (λ k. (of k).s)
      → (tables : List (List Class)) → AreClassesOf new tables → (k : ℕ) (f g : Function)
      → slice_get ir.functions k ≡ Some f → slice_get new.functions k ≡ Some g
      → (own_loads (classes_of tables k) (form_of g.body) ≤ own_loads (of k) (form_of f.body))
      × (conditions_a (classes_of tables k) (form_of g.body)
      ≤ conditions_a (of k) (form_of f.body))

abbrev pub FormsAreReused : Type 0
FormsAreReused = (ir new : Ir) → IsScoped ir → IsReuseOf ir new → KeepsForm ir new
