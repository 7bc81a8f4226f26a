-- What the crates above need of the rounds of a pair on the machine.
pub use Rattle.dae_machine_rounds.proofs.Does.{Does, here, did_a, did_e}
pub use Rattle.dae_machine_rounds.proofs.Both.{does_same, does_both, does_one, does_to}
pub use Rattle.dae_machine_rounds.proofs.Slots.{Counts, resting, held, none_waits, Loads, sending, words_for}
pub use Rattle.dae_machine_rounds.proofs.PartsA.{with_al, HasRoom, Comes, parts_come}
pub use Rattle.dae_machine_rounds.proofs.Landing.{least_of, GoesOn, level, IsSound, Stands, Ended, Lands, then_order, order_run, exits, Arrived, then_lands, less}
pub use Rattle.dae_machine_rounds.proofs.Worlds.{LoadsWords, loads_words}
pub use Rattle.dae_machine_rounds.proofs.PartsE.{parts_taken}
pub use Rattle.dae_machine_rounds.proofs.Tails.{IsMessage, silent, message_is, emit_does}
pub use Rattle.dae_machine_rounds.proofs.Groups.{rest_empty, one_round, rest_words, arrives, GroupFits, group_lands, rest_is}
pub use Rattle.dae_machine_rounds.proofs.Play.{one_each, Part, play, ends_with}
pub use Rattle.dae_machine_rounds.proofs.Control.{no_move, one_move, control, told_by_a, told_by_e, both_halt}
