-- What other crates may use of what is due for an image and a certificate.
pub use Rattle.dae_cli_guard_job.proofs.Single.{single_guarding}
