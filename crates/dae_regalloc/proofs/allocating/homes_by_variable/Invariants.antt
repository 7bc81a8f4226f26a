use Rattle.std.specs.Prelude.{◌≡◌, ℕ, ◌<◌, length}
use Rattle.dae_regalloc.specs.Seen.{number_in}
use Rattle.dae_select_walks.specs.Homes.{home_in}
use Rattle.dae_regalloc.specs.Given.{numbered_home}
use Rattle.dae_regalloc.proofs.allocating.homes_by_variable.Given as goal

abbrev pub invariant-loop-variable : goal.invariant-loop-variable
invariant-loop-variable l = record {
  long : length l.table.items ≡ l.variable;
  homes : (v : ℕ) → v < length l.table.items → home_in l.table.items v ≡ numbered_home l.homes (number_in l.numbers v);
}
