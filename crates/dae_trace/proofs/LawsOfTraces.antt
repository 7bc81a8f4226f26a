-- The laws of this crate that proofs of other crates use, beside the contracts of its law functions.
pub use Rattle.dae_trace.proofs.Following.{line_behind}
pub use Rattle.dae_trace.proofs.Runs.{faults_are_one, lines_after, traces_fault_not, traces_lead_to_one}
