-- The laws of this crate that proofs of other crates use.
pub use Rattle.dae_select_facts.proofs.Lists.{facts_next}
