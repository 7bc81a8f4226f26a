-- The laws of this crate that proofs of other crates use.
pub use Rattle.dae_asm_sheet.proofs.Cut.{cut_again}
