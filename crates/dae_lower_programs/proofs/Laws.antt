-- Laws for the crates above: of whole parts, one behind the other, of lists of them, and of items of lists.
pub use Rattle.dae_lower_programs.proofs.Arguments.{any_default}
pub use Rattle.dae_lower_programs.proofs.Rows.{Leads, first_leads, last_leads, last_whole, leaf_whole, next_leads, nothing_whole, then_whole, two_items}
