-- Laws that crates above cite: of files that are fetched, and of texts.
pub use Rattle.dae_cli_source_jobs.proofs.Stopped.{files_with, files_without, texts_with, texts_without}
