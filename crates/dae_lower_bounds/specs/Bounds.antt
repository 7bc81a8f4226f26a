-- What lowering may give the access side to load and to decide: in each function at most as many loads into variables that lead to
-- addresses as the function has wanted expressions that designate a scalar in memory, and at most as many conditions as it
-- has initialised aggregates and tests that are open to the access side.
use Rattle.std.specs.Prelude.{◌≡◌, ◌+◌, ◌≤◌, ℕ, slice_get, Some}
use Rattle.std.specs.List.{AllByRecursion}
use Rattle.dae_ir.specs.Form.{form_of}
use Rattle.dae_ir.specs.Classes.{Classes, AreAddressesClosed}
use Rattle.dae_ir.specs.Programs.{program_of as form_program}
use Rattle.dae_ir.specs.Sizes.{own_loads, conditions_a}
use Rattle.dae_ir.specs.declared.form.Function.{Function as FormFunction}
use Rattle.dae_ir.specs.declared.form.Ir.{Ir}
use Rattle.dae_program.specs.declared.program.Function.{Function}
use Rattle.dae_program.specs.declared.program.Program.{Program}
use Rattle.dae_program.specs.Programs.{program_of}
use Rattle.dae_program.specs.Wanted.{Wants, AreKept, wanted_reads, open_tests}
use Rattle.dae_lower_bounds.specs.Constants.{InitialisesConstants}
use Rattle.dae_lower_bounds.specs.Voids.{void_tests}
use Rattle.dae_lower_formed.specs.Formed.{plain, IsLowered}

-- Sets of the form's variables, function by function, that hold each variable which leads to addresses: so few loads go into
-- them, and so few conditions are of their variables alone. The least such sets are within them. A program of C has no tests
-- without a value
pub record HasBoundedSets (p : Program) (ir : Ir) (limit : ℕ) (wants : Wants) : Type 0 where
  pub of : ℕ → Classes
  pub closed : AreAddressesClosed (form_program ir) (λ k. (of k).s)
  pub loads : (k : ℕ) (f : Function) (g : FormFunction) → slice_get p.functions k ≡ Some f
      → slice_get ir.functions k ≡ Some g
      → own_loads (of k) (form_of g.body) ≤ wanted_reads (program_of p limit) wants k
  pub decides : (k : ℕ) (f : Function) (g : FormFunction) → slice_get p.functions k ≡ Some f
      → slice_get ir.functions k ≡ Some g
      → conditions_a (of k) (form_of g.body)
      ≤ open_tests (program_of p limit) wants k + void_tests (program_of p limit) k

-- there are such sets for any set of wanted variables that is kept
abbrev pub SetsBounded : Type 0
SetsBounded =
    (p : Program) (ir : Ir) → IsLowered p ir →
    AllByRecursion (λ (f : Function). InitialisesConstants (let g = plain p f in g.body)) p.functions →
    (limit : ℕ) (wants : Wants) → AreKept (program_of p limit) wants → HasBoundedSets p ir limit wants
