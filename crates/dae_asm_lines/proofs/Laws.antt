-- The laws of this crate that proofs of other crates use.
pub use Rattle.dae_asm_lines.proofs.Lines.{one_line}
pub use Rattle.dae_asm_lines.proofs.Filled.{one_instruction}
