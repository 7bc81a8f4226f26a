-- The laws of this crate that proofs of other crates use.
pub use Rattle.dae_ranges.proofs.Members.{each_has, single_is, has_single, has_any, is_below_highest, is_from_lowest, within_has, decided_is, raised_has, shifted_has, scaled_has, below_has, from_has, meet_where}
pub use Rattle.dae_ranges.proofs.Closed.{each_where, same_each, below_by}
pub use Rattle.dae_ranges.proofs.Signed.{same_decided, few_skipped}
pub use Rattle.dae_ranges.proofs.Turned.{least_has, decided_not}
