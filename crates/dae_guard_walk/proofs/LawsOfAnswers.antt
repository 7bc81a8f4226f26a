-- The laws of this crate that proofs of other crates use.
pub use Rattle.dae_guard_walk.proofs.OneAnswer.{one_due}
