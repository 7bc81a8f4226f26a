-- What other crates may use of what is due for a timed run.
pub use Rattle.dae_cli_time_job.proofs.Single.{single_timing}
