-- What is proved of common subexpressions beside what whole forms keep: code stays as large, and has as many items of each kind.
use Rattle.std.specs.Prelude.{◌≡◌, ℕ, List}
use Rattle.dae_ir.specs.Form.{Form}
use Rattle.dae_ir.specs.Classes.{Classes}
use Rattle.dae_ir.specs.Sizes.{form_size, tally}
use Rattle.dae_ir.specs.declared.form.Item.{Item}
use Rattle.dae_ir.specs.declared.form.Test.{Test}
use Rattle.dae_commons.specs.declared.equations.Equation.{Equation}
use Rattle.dae_commons.specs.Copies.{propagated_test}
use Rattle.dae_commons.specs.Commoned.{commoned_item, commoned_code}

-- what is counted of an item, and of a test, is the same behind the change
abbrev pub CountsAlike : Classes → (Item → ℕ) → Type 0
CountsAlike c f = (q : List Equation) (item : Item) → f (commoned_item c q item) ≡ f item

abbrev pub CountsTestsAlike : Classes → (Test → ℕ) → Type 0
CountsTestsAlike c h = (q : List Equation) (t : Test) → h (propagated_test c q t) ≡ h t

pub record KeepsCounts (c : Classes) (q : List Equation) (code : Form) : Type 0 where
  pub size : form_size (commoned_code c q code) ≡ form_size code
  pub tallies : (f : Item → ℕ) (h : Test → ℕ) → CountsAlike c f → CountsTestsAlike c h
      → tally f h (commoned_code c q code) ≡ tally f h code

abbrev pub CommoningKeepsCounts : Type 0
CommoningKeepsCounts = (c : Classes) (q : List Equation) (code : Form) → KeepsCounts c q code
