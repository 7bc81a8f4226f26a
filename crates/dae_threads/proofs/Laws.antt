-- Laws for the crates above: of worlds that differ in how many items were executed.
pub use Rattle.dae_threads.proofs.Items.{no_more, items_then}
