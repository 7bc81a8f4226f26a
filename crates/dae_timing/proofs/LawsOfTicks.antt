-- The laws of this crate that proofs of other crates use, beside the contracts of its law functions.
pub use Rattle.dae_timing.proofs.Apart.{picks_behind, tick_behind}
pub use Rattle.dae_timing.proofs.Once.{prints_once}
pub use Rattle.dae_timing.proofs.Pacing.{costs_some, ticks_at_most}
pub use Rattle.dae_timing.proofs.Rows.{tick_counts, ticks_join, timed_run}
pub use Rattle.dae_timing.proofs.Running.{tick_runs, ticks_are_a_run}
