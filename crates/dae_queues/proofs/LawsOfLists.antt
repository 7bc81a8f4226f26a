-- The laws of this crate that proofs of other crates use, beside the contracts of its law functions.
pub use Rattle.dae_queues.proofs.Bytes.{loaded_other}
pub use Rattle.dae_queues.proofs.QueueLaws.{first_more, first_value_more, rest_more, rest_slots_more, room_more, some_first_more, some_value_more}
pub use Rattle.dae_queues.proofs.MemoryLaws.{find_rest, map_rest, any_rest, first_value_given, waiting_other, with_value_twice, any_holds_given}
pub use Rattle.dae_queues.proofs.CountLaws.{counts_find, all_find, counts_next, counts_more, slots_more, slots_up, slots_rest, slots_given, sa_rest}
pub use Rattle.dae_queues.proofs.FillLaws.{given_more, newer_bars_not}
pub use Rattle.dae_queues.proofs.DrainLaws.{drained_memory, next_more_sa, rest_more_sa, next_more_sd, rest_more_sd, any_next, newer_held_not, no_byte_shared}
pub use Rattle.dae_queues.proofs.Places.{SlotsNumbered}
