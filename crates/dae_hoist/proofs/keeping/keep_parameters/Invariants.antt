use Rattle.std.specs.Prelude.{◌≡◌, ℕ, ◌<◌, true}
use Rattle.dae_hoist.specs.Kept.{is_kept}
use Rattle.dae_hoist.specs.Planned.{hoisting_of}
use Rattle.dae_hoist.proofs.keeping.keep_parameters.Given as goal

abbrev pub invariant-loop-variable : goal.invariant-loop-variable
invariant-loop-variable l = (v : ℕ) → v < l.variable → is_kept (hoisting_of l.plan) v ≡ true
