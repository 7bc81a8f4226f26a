-- What other crates may use of what is due for a traced image, and for bytes as a trace.
pub use Rattle.dae_cli_trace_jobs.proofs.Single.{single_checking, single_tracing}
