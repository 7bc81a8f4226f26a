-- The laws of this crate that proofs of other crates use.
pub use Rattle.dae_encode.proofs.Listed.{decode_encoded, encoded_decode}
pub use Rattle.dae_encode.proofs.Legal.{use_computes, use_loads, use_stores, use_calls, flag_small}
pub use Rattle.dae_encode.proofs.Own.{asks_own}
