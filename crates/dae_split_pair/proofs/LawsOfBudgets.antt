-- Laws for the crates above: when a pair's groups are small enough for its budget to be counted.
pub use Rattle.dae_split_pair.proofs.Found.{small_groups}
pub use Rattle.dae_split_pair.proofs.Ordered.{pair_ordered}
