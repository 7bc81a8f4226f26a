-- Laws for the crates above: of tests, of functions and their forms, and of what forms do.
pub use Rattle.dae_lower_formed.proofs.Functions.{bounds_of}
pub use Rattle.dae_lower_formed.proofs.Programs.{form_there, function_there, lawful_at, counts, memory_most}
pub use Rattle.dae_lower_formed.proofs.Agreeing.{same_outcome}
