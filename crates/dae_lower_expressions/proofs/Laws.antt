-- Laws for the crates above: of branches and blocks.
pub use Rattle.dae_lower_expressions.proofs.Chains.{branched, exact_block}
pub use Rattle.dae_lower_expressions.proofs.Nodes.{alone}
