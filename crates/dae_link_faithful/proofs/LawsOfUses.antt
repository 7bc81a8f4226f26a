-- The laws of this crate that proofs of other crates use.
pub use Rattle.dae_link_faithful.proofs.Sided.{function_uses, start_uses, alone_append, alone_split}
