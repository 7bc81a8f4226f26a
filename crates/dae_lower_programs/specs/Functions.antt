-- The form of a function, where its file has these links, and of a parameter that is stored in the frame.
use Rattle.std.specs.Prelude.{◌≡◌, ℕ, ◌+◌, ◌-◌, ◌^◌, ◌<◌, Bool, nat_eq, List, length, slice_get, Some}
use Rattle.dae_base.specs.declared.Place.{Place}
use Rattle.dae_lower_formed.specs.Formed.{form_variables, plain}
use Rattle.dae_ir.specs.Code.{Do}
use Rattle.dae_ir.specs.Form.{form_of}
use Rattle.dae_ir.specs.declared.form.Function.{Function as FormFunction}
use Rattle.dae_ir.specs.declared.form.Item.TheVariants.{Assign, Store}
use Rattle.dae_ir.specs.declared.form.Operand.TheVariants.{Variable}
use Rattle.dae_ir.specs.declared.form.Value.TheVariants.{FrameAddress}
use Rattle.dae_lower.specs.Lowering.{Made, emit, function_code, one}
use Rattle.dae_lower_maker.specs.Numbers.{late_in}
use Rattle.dae_program.specs.declared.program.Function.{Function}
use Rattle.dae_program.specs.declared.program.Links.{Links}
use Rattle.dae_program.specs.declared.program.Program.{Program}
use Rattle.dae_program.specs.declared.program.FrameSlot.{FrameSlot}
use Rattle.dae_program.specs.Resolved.{address_in, callee_in}
use Rattle.dae_program.specs.Trees as tree
use Rattle.dae_program.specs.Views.{view_statements}

-- a function as plain data
abbrev pub linked : (none : ℕ) → Links → Function → tree.Function
linked none links f = record {
  address = address_in (Some links);
  callee = callee_in none (Some links);
  parameters = f.parameters;
  frame = f.frame;
  body = view_statements f.body;
}

-- Words number the variables of a function's form: its own, and those that lowering makes, so that none of the last is set.
abbrev pub HasNumbersWith : (none : ℕ) → Links → (is_main : Bool) → Function → Type 0
HasNumbersWith none links is_main f = (f.variables < 2 ^ 32 - 1) × (late_in (function_code f.place is_main (linked none links f) f.variables) ≡ 0)

-- the same of a function of a program, with the links of its file
abbrev pub HasNumbers : Program → ℕ → Function → Type 0
HasNumbers p k f = (f.variables < 2 ^ 32 - 1) × (late_in (function_code f.place (nat_eq k p.main) (plain p f) f.variables) ≡ 0)

-- of functions of a program from the first on
abbrev pub HaveNumbers : Program → List Function → Type 0
HaveNumbers p fs = (k : ℕ) (f : Function) → slice_get fs k ≡ Some f → HasNumbers p k f

pub record IsFormWith (none : ℕ) (links : Links) (is_main : Bool) (f : Function) (g : FormFunction) : Type 0 where
  pub name : g.name ≡ f.name
  pub parameters : g.parameters ≡ length f.parameters
  pub variables : g.variables ≡ form_variables f.place (linked none links f) f.variables
  pub frame : g.frame ≡ f.frame
  pub body : form_of g.body ≡ function_code f.place is_main (linked none links f) f.variables

-- a variable is stored in the frame, whose address is in the next one
abbrev pub slot_stored : Place → (variable : ℕ) → FrameSlot → ℕ → Made (Unit {0})
slot_stored p v slot n =
    emit (Do p (Assign n (FrameAddress slot.offset)) (one p (Store slot.width (Variable n) (Variable v)))) (n + 1)
