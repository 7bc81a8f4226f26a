-- What other crates may use of what is due for an assembly text.
pub use Rattle.dae_cli_asm_job.proofs.Said.{file_with, file_without, single_assembly}
