-- The laws of this crate that proofs of other crates use: of contents, single instructions, walks, liveness and facts.
pub use Rattle.dae_select_walks.proofs.Composed.{acts_does, acts_map, comes_does, comes_here, comes_map, comes_more, comes_nears, comes_then, does_map, nears_here, nears_map}
pub use Rattle.dae_select_walks.proofs.Steps.{put, read, step, step_address, step_ends, step_load, step_prints, step_shared, step_stops, step_store, store}
pub use Rattle.dae_select_walks.proofs.Lives.{turn_again, turn_adds}
pub use Rattle.dae_select_walks.proofs.SetBefore.{live_set}
pub use Rattle.dae_select_walks.proofs.Residents.{variable_home, number_home}
pub use Rattle.dae_select_walks.proofs.Facts.{operand_is, aligned_is, good_is, returned_facts, deed_facts}
pub use Rattle.dae_select_walks.proofs.Going.{Reach, facts_go}
pub use Rattle.dae_select_walks.proofs.Tested.{Goes_by, branch_lies}
