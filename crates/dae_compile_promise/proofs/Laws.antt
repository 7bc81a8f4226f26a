-- What crates above cite of this crate's proofs: that a run in canonical order is a run.
pub use Rattle.dae_compile_promise.proofs.Chain.{OrdersRun}
