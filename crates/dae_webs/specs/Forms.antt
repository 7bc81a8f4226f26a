-- Whole forms whose variables are renamed by webs: what `rename_webs` gives, and what is true of it.
use Rattle.std.specs.Prelude.{◌≡◌, ◌⊎◌, ℕ, ◌+◌, ◌-◌, ◌*◌, ◌<◌, ◌≤◌, true, List, [], ◌∷◌, slice_get, Some}
use Rattle.std.specs.List.{AllByRecursion}
use Rattle.dae_meaning.specs.Alike.{Alike, Same}
use Rattle.dae_meaning.specs.Variables.{Env}
use Rattle.dae_ir.specs.Form.{form_of}
use Rattle.dae_ir.specs.Classes.{Classes, AreAddressesClosed}
use Rattle.dae_ir.specs.Programs.{outcome, program_of}
use Rattle.dae_ir.specs.Scope.{IsScoped}
use Rattle.dae_ir.specs.SetFirst.{IsFunctionSetFirst}
use Rattle.dae_ir.specs.Sizes.{own_loads, conditions_a}
use Rattle.dae_ir.specs.declared.form.Function.{Function}
use Rattle.dae_ir.specs.declared.form.Ir.{Ir}
use Rattle.dae_ir.specs.declared.form.Statement.{Statement}
use Rattle.dae_webs.specs.Current.{own_webs}
use Rattle.dae_webs.specs.Renamed.{Starts, renamed_code}
use Rattle.dae_webs.specs.Known.{Owns, IsKnown}

-- g is f with its variables renamed by webs. Each of its variables is for webs of one of f's; f's own are for their own. It has at
-- most half as many further ones as f has variables beyond 9.
pub record IsRenamedFunction (f g : Function) : Type 0 where
  pub starts : Starts
  pub owns : Owns
  pub owner : ℕ → ℕ
  pub name : g.name ≡ f.name
  pub parameters : g.parameters ≡ f.parameters
  pub frame : g.frame ≡ f.frame
  pub own : (v : ℕ) → v < f.variables → owner v ≡ v
  pub owned : (u v : ℕ) → owns u v ≡ true → (owner u ≡ v) × (u < g.variables)
  pub body : form_of g.body ≡ renamed_code starts 0 (own_webs 0 f.variables) (form_of f.body)
  pub known : IsKnown owns starts 0 (own_webs 0 f.variables) (form_of f.body)
  pub least : f.variables ≤ g.variables
  pub most : 2 * g.variables ≤ 2 * f.variables + (f.variables - 9)

-- the function with another body, and so many variables
abbrev pub with_body : Function → ℕ → List Statement → Function
with_body f variables body = record {
  name = f.name;
  parameters = f.parameters;
  variables = variables;
  frame = f.frame;
  body = body;
}

-- a function that can't be renamed stays as it is
abbrev pub IsRenamedOrSame : Function → Function → Type 0
IsRenamedOrSame f g = (g ≡ f) ⊎ IsRenamedFunction f g

abbrev pub AreRenamedFunctions : List Function → List Function → Type 0
AreRenamedFunctions [] [] = Unit {0}
AreRenamedFunctions [] (g ∷ gs) = ⊥
AreRenamedFunctions (f ∷ fs) [] = ⊥
AreRenamedFunctions (f ∷ fs) (g ∷ gs) = IsRenamedOrSame f g × AreRenamedFunctions fs gs

pub record IsRenamingOf (ir new : Ir) : Type 0 where
  pub memory : new.memory ≡ ir.memory
  pub frames : new.frames ≡ ir.frames
  pub calls : new.calls ≡ ir.calls
  pub main : new.main ≡ ir.main
  pub functions : AreRenamedFunctions ir.functions new.functions

-- ---- what is true of it

abbrev pub HaveSameResult : Env → Env → Type 0
HaveSameResult e f = e 0 ≡ f 0

-- Sets of the new form that keep what leads to addresses: by them each function has as many loads into variables that lead to
-- addresses, and as many conditions that A decides, as by those of the form before.
pub record HasSameAccess (ir new : Ir) (of : ℕ → Classes) : Type 0 where
  pub sets : ℕ → Classes
  pub closed : AreAddressesClosed (program_of new) (λ k. (sets k).s)
  pub same : (k : ℕ) (f g : Function) → slice_get ir.functions k ≡ Some f
      → slice_get new.functions k ≡ Some g
      → (own_loads (sets k) (form_of g.body) ≡ own_loads (of k) (form_of f.body))
      × (conditions_a (sets k) (form_of g.body) ≡ conditions_a (of k) (form_of f.body))

-- It ends as the form does, under each bound on turns, in the same world and with the same result. It is as well made, and sets
-- each variable before it reads it. What keeps what leads to addresses in the form has its like in it.
pub record KeepsFormExactly (ir new : Ir) : Type 0 where
  pub meaning : (n : ℕ) (memory : List ℕ)
      → Alike HaveSameResult Same (outcome ir n memory) (outcome new n memory)
  pub scoped : IsScoped new
  pub first : AllByRecursion IsFunctionSetFirst ir.functions
      → AllByRecursion IsFunctionSetFirst new.functions
  pub access : (of : ℕ → Classes) → AreAddressesClosed (program_of ir) (λ k. (of k).s)
      → HasSameAccess ir new of

abbrev pub FormsAreRenamed : Type 0
FormsAreRenamed = (ir new : Ir) → IsScoped ir → IsRenamingOf ir new → KeepsFormExactly ir new
