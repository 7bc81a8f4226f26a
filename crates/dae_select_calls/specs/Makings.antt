-- What the code of a function is made from.
use Rattle.std.specs.Prelude.{◌≡◌, ℕ, Bool, List}
use Rattle.dae_ir.specs.Classes.{VariableSet}
use Rattle.dae_select_walks.specs.Agrees.{Plan}
use Rattle.dae_select_blocks.specs.Code.{registers_in, unspared}
use Rattle.dae_select_values.specs.Jumps.{is_jal}
use Rattle.dae_select_calls.specs.Layouts.{plan_of, variables_of, AreSmall}
use Rattle.dae_select_values.specs.Tables.{AreNear, home_by}
use Rattle.dae_select_calls.specs.declared.making.Making.{Making}

-- the plan of its side, and how many variables each function has
abbrev pub plan_by : Making → Plan
plan_by m = plan_of m.layouts.now

abbrev pub variables_by : Making → ℕ → ℕ
variables_by m = variables_of m.layouts.now

-- the registers that a call of a function keeps, behind which these variables are live
abbrev pub registers_kept : Making → ℕ → VariableSet → List ℕ
registers_kept m g live = registers_in ((plan_by m).home m.function) (variables_by m m.function) (unspared (plan_by m) m.function g live)

-- whether JAL makes each jump
abbrev pub by_jal : Making → Bool
by_jal m = is_jal m.jumps

-- the homes are those that a small plan gives the function
pub record IsSound (m : Making) : Type 0 where
  pub near : AreNear m.homes
  pub homes : home_by m.homes ≡ (plan_of m.layouts.now).home m.function
  pub small : AreSmall m.layouts.now
