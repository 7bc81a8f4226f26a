-- What statements in memory are made to.
use Rattle.std.specs.Prelude.{◌≡◌, ℕ, List}
use Rattle.dae_ir.specs.declared.form.Statement.{Statement}
use Rattle.dae_lower.specs.Lowering.{Made}
use Rattle.dae_lower_expressions.specs.declared.lowerer.Lowerer.{Lowerer}
use Rattle.dae_lower_expressions.specs.Lowered.{IsBlock, LoweringState, state_of}
use Rattle.dae_lower_maker.specs.Counting.{never}

-- nothing is still to come before and behind, and what is made are statements of their own
pub record WholeBlock (made : ℕ → Made (Unit {0})) (a b : LoweringState) (inner : List Statement) : Type 0 where
  pub by : a.later ≡ never → (b.later ≡ never) × IsBlock (made a.written.next) a.written b.written inner

abbrev pub MakesBlock : (ℕ → Made (Unit {0})) → Lowerer → Lowerer → List Statement → Type 0
MakesBlock made old new inner = WholeBlock made (state_of old) (state_of new) inner
