-- The laws of this crate that crates above it cite: what both answers of a test have, and what comes where the sites of a step break no
-- rule.
pub use Rattle.dae_void_laws.proofs.Kept.{either_has, bind, all_asked}
