-- The laws of this crate that proofs of other crates use.
pub use Rattle.dae_asm_laws.proofs.Outcomes.{one_cause, no_cause}
pub use Rattle.dae_asm_laws.proofs.Same.{one_image, mark_place}
pub use Rattle.dae_asm_laws.proofs.Bytes.{text_bytes}
