-- The laws of this crate that proofs of other crates use.
pub use Rattle.dae_asm_data.proofs.Leading.{starts, passes, breaks, past_part, breaks_in, ends}
