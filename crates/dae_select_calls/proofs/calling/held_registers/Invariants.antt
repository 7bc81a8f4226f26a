use Rattle.std.specs.Prelude.{◌≡◌, take}
use Rattle.dae_select_values.specs.Tables.{home_by}
use Rattle.dae_select_live.specs.Members.{member}
use Rattle.dae_select_calls.proofs.Listed.{held}
use Rattle.dae_select_calls.proofs.calling.held_registers.Given as goal

abbrev pub invariant-loop-variable : goal.invariant-loop-variable
invariant-loop-variable l = member l.held ≡ held l.variables (home_by l.homes) (take l.variable-index l.live)
