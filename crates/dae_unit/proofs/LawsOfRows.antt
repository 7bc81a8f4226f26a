-- The laws of this crate that the proofs of another use: rows that give room, one after the other.
pub use Rattle.dae_unit.proofs.Kept.{fresh_is_first, room_noted, no_room, no_room_noted}
