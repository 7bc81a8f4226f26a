-- The laws of joined lines and of pieces, for the proofs of the crate above: the characters and pieces of a text stand in
-- order, and its offsets are small.
pub use Rattle.dae_lex_scan.proofs.Joining.{all_small}
pub use Rattle.dae_lex_scan.proofs.Cutting.{chars_of}
pub use Rattle.dae_lex_scan.proofs.Rising.{all_rise}
pub use Rattle.dae_lex_scan.proofs.InOrder.{same_place, later, places_earlier, places_all, all_spots}
