-- Code in which variables hold values is as large as before, and has as many items of each kind.
use Rattle.std.specs.Prelude.{◌≡◌, ℕ}
use Rattle.dae_meaning.specs.Variables.{VariableSet}
use Rattle.dae_ir.specs.Form.{form_of}
use Rattle.dae_ir.specs.Sizes.{form_size, tally}
use Rattle.dae_ir.specs.declared.form.Function.{Function}
use Rattle.dae_ir.specs.declared.form.Item.{Item}
use Rattle.dae_ir.specs.declared.form.Item.TheVariants.{Assign}
use Rattle.dae_ir.specs.declared.form.Test.{Test}
use Rattle.dae_ir.specs.declared.form.Value.{Value}
use Rattle.dae_hoist.specs.Forms.{IsHoistedOrSame}

-- what is counted of an assignment doesn't depend on the value
abbrev pub CountsAssignments : (Item → ℕ) → Type 0
CountsAssignments f = (v : ℕ) (x y : Value) → f (Assign v x) ≡ f (Assign v y)

pub record KeepsSize (f g : Function) : Type 0 where
  pub variables : g.variables ≡ f.variables
  pub size : form_size (form_of g.body) ≡ form_size (form_of f.body)
  pub tallies : (count : Item → ℕ) (tests : Test → ℕ) → CountsAssignments count
      → tally count tests (form_of g.body) ≡ tally count tests (form_of f.body)

abbrev pub HoistingKeepsSizes : Type 0
HoistingKeepsSizes =
    (c d : VariableSet) (f g : Function) → IsHoistedOrSame c d f g → KeepsSize f g
