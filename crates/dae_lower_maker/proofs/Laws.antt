-- Laws for the crates above: of what is written behind.
pub use Rattle.dae_lower_maker.proofs.Rows.{after_fits, after_full, after_grows, after_most, behind_behind, behind_done, below_or_last, exact_written, form_of_pushed, given_written, item_given, late_checks, late_then, late_there, nothing_written, parts_written, written_on, written_so}
