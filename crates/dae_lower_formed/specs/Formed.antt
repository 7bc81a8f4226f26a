-- What is true of the form of every lawful program: that it is well made, and that each variable is set before it is read.
use Rattle.std.specs.Prelude.{◌≡◌, ℕ, ◌+◌, true, nat_eq, nat_lt, List, [], ◌∷◌, length, slice_get, Some}
use Rattle.std.specs.List.{AllByRecursion}
use Rattle.dae_base.specs.declared.Place.{Place}
use Rattle.dae_ir.specs.Code.{Each}
use Rattle.dae_ir.specs.Form.{form_of}
use Rattle.dae_ir.specs.Classes.{VariableSet}
use Rattle.dae_ir.specs.Scope.{IsScoped, ItemIn, TestIn}
use Rattle.dae_ir.specs.SetFirst.{form_flow, IsSetFirst, IsFunctionSetFirst}
use Rattle.dae_ir.specs.declared.form.Function.{Function as FormFunction}
use Rattle.dae_ir.specs.declared.form.Ir.{Ir}
use Rattle.dae_program.specs.declared.program.Function.{Function}
use Rattle.dae_program.specs.declared.program.Program.{Program}
use Rattle.dae_program.specs.Lawful.{is_lawful}
use Rattle.dae_program.specs.Resolved.{function_in}
use Rattle.dae_program.specs.Trees as tree
use Rattle.dae_lower.specs.Lowering.{◌≫◌, parameters_stored, statements, function_code}

-- ---- the form of a program in memory

-- how many variables the form of a function has, which has n itself
abbrev pub form_variables : Place → tree.Function → ℕ → ℕ
form_variables p f n =
    let made = parameters_stored p f.parameters 1 n ≫ λ x. statements (record { address = f.address; callee = f.callee }) f.body in
    made.next

-- a function as plain data
abbrev pub plain : Program → Function → tree.Function
plain p f = function_in (length p.functions) p.links (Some f)

-- g is the form of f, the function of number k
pub record IsFunctionFormOf (p : Program) (k : ℕ) (f : Function) (g : FormFunction) : Type 0 where
  pub name : g.name ≡ f.name
  pub parameters : g.parameters ≡ length f.parameters
  pub variables : g.variables ≡ form_variables f.place (plain p f) f.variables
  pub frame : g.frame ≡ f.frame
  pub body : form_of g.body ≡ function_code f.place (nat_eq k p.main) (plain p f) f.variables

-- the functions from number k on
abbrev pub AreFormsOf : Program → ℕ → List Function → List FormFunction → Type 0
AreFormsOf p k [] [] = Unit {0}
AreFormsOf p k [] (g ∷ gs) = ⊥
AreFormsOf p k (f ∷ fs) [] = ⊥
AreFormsOf p k (f ∷ fs) (g ∷ gs) = IsFunctionFormOf p k f g × AreFormsOf p (k + 1) fs gs

pub record IsFormOf (p : Program) (ir : Ir) : Type 0 where
  pub memory : ir.memory ≡ p.memory
  pub frames : ir.frames ≡ p.frames
  pub main : ir.main ≡ p.main
  pub functions : AreFormsOf p 0 p.functions ir.functions

-- a form of a program that the type of programs allows
pub record IsLowered (p : Program) (ir : Ir) : Type 0 where
  pub lawful : is_lawful p.memory p.frames p.content p.links p.functions p.main ≡ true
  pub form : IsFormOf p ir

-- ---- what is true of it

-- Each name is there, each constant is a word, no code falls off its end, a call gives as many arguments as are taken, a break
-- stands in a loop, main has no parameters and never returns.
abbrev pub FormsScoped : Type 0
FormsScoped = (p : Program) (ir : Ir) → IsLowered p ir → IsScoped ir

-- Each variable that a function's form sets or reads is below the number of its variables, and each constant is a word; it takes
-- calls of some functions, which needn't be forms.
abbrev pub FormsName : Type 0
FormsName =
    (p : Program) → is_lawful p.memory p.frames p.content p.links p.functions p.main ≡ true → (k : ℕ) (f : Function) → slice_get p.functions k ≡ Some f →
    let n = form_variables f.place (plain p f) f.variables in
    (functions : List FormFunction) ×
    Each (ItemIn functions n) (TestIn n) (function_code f.place (nat_eq k p.main) (plain p f) f.variables)

-- each variable below a number
abbrev pub below : ℕ → VariableSet
below n v = nat_lt v n

-- What lowering makes is set before it is read: each function's form reads no variable that isn't set, where the function's own
-- variables are set before.
abbrev pub MadeSetFirst : Type 0
MadeSetFirst =
    (p : Program) (ir : Ir) → IsLowered p ir → (k : ℕ) (f : Function) (g : FormFunction) → slice_get p.functions k ≡ Some f →
    slice_get ir.functions k ≡ Some g → IsSetFirst form_flow (below f.variables) (form_of g.body)

-- The functions of a form set each variable before they read it.
abbrev pub FormsSetFirst : Type 0
FormsSetFirst = (p : Program) (ir : Ir) → IsLowered p ir → AllByRecursion IsFunctionSetFirst ir.functions
