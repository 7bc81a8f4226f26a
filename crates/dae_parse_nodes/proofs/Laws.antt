-- The laws of lists in memory, for the proofs of the crates above.
pub use Rattle.dae_parse_nodes.proofs.Listing.{shows_declarations, shows_statements, shows_longer}
