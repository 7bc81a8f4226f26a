-- What the form of an image does beside its program, and what its access side loads and decides.
use Rattle.std.specs.Prelude.{◌≡◌, ℕ, ◌≤◌, List, slice_get, Some}
use Rattle.dae_ir.specs.Form.{form_of}
use Rattle.dae_ir.specs.Classes.{classes_of}
use Rattle.dae_ir.specs.Programs.{AreClassesOf, outcome}
use Rattle.dae_ir.specs.Sizes.{own_loads, conditions_a}
use Rattle.dae_ir.specs.declared.form.Function.{Function as FormFunction}
use Rattle.dae_ir.specs.declared.form.Ir.{Ir}
use Rattle.dae_ir.specs.declared.stream.Class.{Class}
use Rattle.dae_program.specs.declared.program.Function.{Function}
use Rattle.dae_program.specs.declared.program.Program.{Program}
use Rattle.dae_program.specs.Programs.{meaning_of, program_of, start}
use Rattle.dae_program.specs.Wanted.{Wants, AreKept, wanted_reads, open_tests}
use Rattle.dae_lower_formed.specs.Order.{DoesTheSame, IsKeptByFewer}

-- The form does what the program does: where that ends or traps, with no more loads than the program reads and as many stores as
-- it writes. In each function, by the least classes of the form and any set of wanted variables that is kept, and so by the
-- least, the access side loads at most as many variables for itself as wanted expressions designate a scalar in memory, and
-- decides at most as many conditions as there are initialised aggregates and tests that are open to it.
pub record KeepsAccesses (p : Program) (calls : ℕ) (form : Ir) : Type 0 where
  pub same : DoesTheSame IsKeptByFewer (meaning_of p calls)
      (λ n. outcome form n (let w = start p.memory p.frames p.content in w.memory))
  pub loads : (wants : Wants) → AreKept (program_of p calls) wants
      → (tables : List (List Class)) → AreClassesOf form tables
      → (k : ℕ) (f : Function) (g : FormFunction)
      → slice_get p.functions k ≡ Some f → slice_get form.functions k ≡ Some g
      → own_loads (classes_of tables k) (form_of g.body) ≤ wanted_reads (program_of p calls) wants k
  pub decides : (wants : Wants) → AreKept (program_of p calls) wants
      → (tables : List (List Class)) → AreClassesOf form tables
      → (k : ℕ) (f : Function) (g : FormFunction)
      → slice_get p.functions k ≡ Some f → slice_get form.functions k ≡ Some g
      → conditions_a (classes_of tables k) (form_of g.body)
      ≤ open_tests (program_of p calls) wants k
