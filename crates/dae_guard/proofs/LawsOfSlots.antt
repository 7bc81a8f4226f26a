-- The law of this crate that the proofs of another use.
pub use Rattle.dae_guard.proofs.SlotLaws.{any_more_at}
