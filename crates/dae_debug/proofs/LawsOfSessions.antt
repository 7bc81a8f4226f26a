-- Laws of sessions that crates above cite: a script has its replies, and one list of them.
pub use Rattle.dae_debug.proofs.Single.{one_script}
pub use Rattle.dae_debug.proofs.Totals.{Fit, Scripted, answers_fit, opened_fit, some_replies}
