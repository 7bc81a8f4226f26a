-- The laws of this crate that proofs of other crates use: the instructions of code with its places are those of the code.
pub use Rattle.dae_select.proofs.InFront.{same_code}
