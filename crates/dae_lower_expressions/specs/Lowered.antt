-- What a lowerer has written and what is still to come, before and after a part of an expression.
use Rattle.std.specs.Prelude.{◌≡◌, ℕ, ◌-◌, ◌^◌, ◌<◌, ◌≤◌, List}
use Rattle.dae_ir.specs.Classes.{VariableSet}
use Rattle.dae_ir.specs.Form.{form_of}
use Rattle.dae_ir.specs.declared.form.Statement.{Statement}
use Rattle.dae_ir.specs.declared.form.Operand.TheVariants.{Number}
use Rattle.dae_lower.specs.Lowering.{Made, Links, Ways, branches, gives, or, ◌≫◌}
use Rattle.dae_base.specs.declared.Place.{Place}
use Rattle.dae_lower_expressions.specs.declared.lowerer.Lowerer.{Lowerer}
use Rattle.dae_lower_expressions.specs.declared.leaves.BranchPurpose.{BranchPurpose}
use Rattle.dae_lower_expressions.specs.declared.leaves.BranchPurpose.TheVariants.{Value, Truth, Effect}
use Rattle.dae_lower_maker.specs.Counting.{MarkCounts, both, never, is_counted, counts_of}
use Rattle.dae_lower_maker.specs.Making.{CodeSoFar, Writes, so_far}
use Rattle.dae_lower_maker.specs.Numbers.{late_in}
use Rattle.dae_lower_maker.specs.declared.maker.Increment.{Increment}
use Rattle.dae_program.specs.Resolved.{address_in, callee_in}
use Rattle.dae_program.specs.Trees.{Expression, Target, Step}
use Rattle.dae_program.specs.Views.{is_prefix}
use Rattle.dae_program.specs.declared.program.Links.{Links as FileLinks}
use Rattle.std.specs.Prelude.{Some}

-- what a file's numbers mean
abbrev pub links_in : (none : ℕ) → FileLinks → Links
links_in none links = record { address = address_in (Some links); callee = callee_in none (Some links) }

-- what is written, and how often what is still to come assigns each variable
pub record LoweringState : Type 0 where
  pub written : CodeSoFar
  pub later : MarkCounts

abbrev pub state_of : Lowerer → LoweringState
state_of lowerer = record { written = so_far lowerer.maker; later = counts_of lowerer.later }

-- a part with these assignments is no more to come, and what is made of it is written, where the rest assigns what it does
pub record Lowers {Y : Type 0} (made : VariableSet → ℕ → Made Y) (some : MarkCounts) (a b : LoweringState) (y : Y) : Type 0 where
  pub by : (rest : MarkCounts) → a.later ≡ both rest some →
      (b.later ≡ rest) × Writes (made (is_counted rest) a.written.next) a.written b.written y

abbrev pub LowersTo : {Y : Type 0} → (VariableSet → ℕ → Made Y) → MarkCounts → Lowerer → Lowerer → Y → Type 0
LowersTo made some old new y = Lowers made some (state_of old) (state_of new) y

-- statements of their own, and nothing is written
pub record WroteBlock (made : Made (Unit {0})) (a b : CodeSoFar) (inner : List Statement) : Type 0 where
  pub code : b.code ≡ a.code
  pub block : form_of inner ≡ made.code
  pub next : b.next ≡ made.next

-- so they are where the next variable has a number below the last
pub record IsBlock (made : Made (Unit {0})) (a b : CodeSoFar) (inner : List Statement) : Type 0 where
  pub grows : a.next ≤ b.next
  pub fits : b.next < 2 ^ 32 - 1 → WroteBlock made a b inner
  pub full : a.next < 2 ^ 32 - 1 → 2 ^ 32 - 1 ≤ b.next → 0 < late_in made.code

pub record Parts (made : VariableSet → ℕ → Made (Unit {0})) (some : MarkCounts) (a b : LoweringState) (block : List Statement) : Type 0 where
  pub by : (rest : MarkCounts) → a.later ≡ both rest some →
      (b.later ≡ rest) × IsBlock (made (is_counted rest) a.written.next) a.written b.written block

abbrev pub PartsTo : (VariableSet → ℕ → Made (Unit {0})) → MarkCounts → Lowerer → Lowerer → List Statement → Type 0
PartsTo made some old new block = Parts made some (state_of old) (state_of new) block

-- what an expression in a branch is for: a variable gets its value, or 1 or 0 as it isn't or is 0, or its effects
abbrev pub used : BranchPurpose → Ways → VariableSet → ℕ → Made (Unit {0})
used (Value p v) w later n = w.value later n ≫ gives p v
used (Truth p v) w later n = branches p (w.condition later n) (gives p v (Number 1)) (gives p v (Number 0))
used Effect w later n = w.effect later n

-- `++` or `--` as an expression
abbrev pub step_of : Increment → Target → Expression
step_of i t = Step i.place i.kind t i.change (is_prefix i.fixity)

-- a condition, which knows what the parts of its branches assign, and its branches
abbrev pub chosen_by : Place → BranchPurpose → (a b c : Ways) → VariableSet → VariableSet → ℕ → Made (Unit {0})
chosen_by place part a b c s later n = branches place (a.condition (or later s) n) (used part b later) (used part c later)

-- nothing is still to come before and behind, and what is made is written
pub record Whole {Y : Type 0} (made : ℕ → Made Y) (a b : LoweringState) (y : Y) : Type 0 where
  pub by : a.later ≡ never → (b.later ≡ never) × Writes (made a.written.next) a.written b.written y

abbrev pub MakesWhole : {Y : Type 0} → (ℕ → Made Y) → Lowerer → Lowerer → Y → Type 0
MakesWhole made old new y = Whole made (state_of old) (state_of new) y
