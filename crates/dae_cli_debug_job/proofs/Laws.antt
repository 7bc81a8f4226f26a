-- What other crates may use of what is due for a session.
pub use Rattle.dae_cli_debug_job.proofs.Single.{single_debugging}
