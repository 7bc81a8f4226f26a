-- The laws of this crate that proofs of other crates use.
pub use Rattle.dae_asm_order.proofs.Numbered.{items_join, one_list, nothing_and_item}
pub use Rattle.dae_asm_order.proofs.Places.{byte_row, mark_row, name_row}
