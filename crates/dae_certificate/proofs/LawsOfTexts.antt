-- The laws of this crate that proofs of other crates use.
pub use Rattle.dae_certificate.proofs.Once.{not_both, one_bad_line, one_certificate}
