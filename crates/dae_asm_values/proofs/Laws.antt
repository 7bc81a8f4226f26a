-- The laws of this crate that proofs of other crates use.
pub use Rattle.dae_asm_values.proofs.Formed.{codes_formed}
pub use Rattle.dae_asm_values.proofs.Sizes.{words_are_few, names_are_few}
pub use Rattle.dae_asm_values.proofs.Walked.{rows_from}
