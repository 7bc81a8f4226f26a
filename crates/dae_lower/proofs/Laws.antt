-- What the proofs of other crates use of this one: results that no statement follows, and how many bytes a turn clears.
pub use Rattle.dae_lower.proofs.Functions.{IsLeft}
pub use Rattle.dae_lower.proofs.Initialising.{turn_is_short}
