-- What is proved of threaded conditions beside what whole forms keep: code doesn't grow.
use Rattle.std.specs.Prelude.{◌≡◌, ℕ, ◌≤◌, true}
use Rattle.dae_ir.specs.Form.{form_of}
use Rattle.dae_ir.specs.Sizes.{form_size, tally}
use Rattle.dae_ir.specs.declared.form.Function.{Function}
use Rattle.dae_ir.specs.declared.form.Item.{Item}
use Rattle.dae_ir.specs.declared.form.Test.{Test}
use Rattle.dae_threads.specs.Forms.{IsThreadedFunction}
use Rattle.dae_threads.specs.Threaded.{is_light}

-- what is counted of loads and calls alone
abbrev pub CountsHeavy : (Item → ℕ) → Type 0
CountsHeavy f = (item : Item) → is_light item ≡ true → f item ≡ 0

-- The function has as many variables, and its code is no larger. Of loads, calls and conditions there are no more.
pub record IsNoLarger (f g : Function) : Type 0 where
  pub variables : g.variables ≡ f.variables
  pub size : form_size (form_of g.body) ≤ form_size (form_of f.body)
  pub tallies : (count : Item → ℕ) (tests : Test → ℕ) → CountsHeavy count
      → tally count tests (form_of g.body) ≤ tally count tests (form_of f.body)

abbrev pub ThreadingAddsNothing : Type 0
ThreadingAddsNothing = (f g : Function) → IsThreadedFunction f g → IsNoLarger f g
