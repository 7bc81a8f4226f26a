-- What is proved of renaming beside what whole forms keep: code stays as large.
use Rattle.std.specs.Prelude.{◌≡◌, ℕ, Option}
use Rattle.dae_ir.specs.Form.{Form}
use Rattle.dae_ir.specs.Sizes.{form_size, tally}
use Rattle.dae_ir.specs.declared.form.Item.{Item}
use Rattle.dae_ir.specs.declared.form.Test.{Test}
use Rattle.dae_webs.specs.Current.{Current}
use Rattle.dae_webs.specs.Renamed.{Starts, renamed_item, renamed_test, renamed_code}

-- what is counted of an item doesn't rest on its variables
abbrev pub IsBlind : (Item → ℕ) → Type 0
IsBlind f = (o : Option ℕ) (m : Current) (item : Item) → f (renamed_item o m item) ≡ f item

abbrev pub IsBlindTest : (Test → ℕ) → Type 0
IsBlindTest h = (m : Current) (t : Test) → h (renamed_test m t) ≡ h t

-- code is as large, and what is counted in it by what doesn't rest on variables is the same
pub record StaysAsLarge (b : Starts) (n : ℕ) (m : Current) (code : Form) : Type 0 where
  pub size : form_size (renamed_code b n m code) ≡ form_size code
  pub tallies : (f : Item → ℕ) (h : Test → ℕ) → IsBlind f → IsBlindTest h
      → tally f h (renamed_code b n m code) ≡ tally f h code

abbrev pub RenamingKeepsSizes : Type 0
RenamingKeepsSizes =
    (b : Starts) (n : ℕ) (m : Current) (code : Form) → StaysAsLarge b n m code
