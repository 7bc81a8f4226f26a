-- The law of this crate that the proofs of another use: what passes as the same object or function is the same.
pub use Rattle.dae_unit.proofs.Same.{entities_same}
