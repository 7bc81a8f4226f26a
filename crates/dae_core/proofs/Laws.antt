-- The laws of this crate that proofs of other crates use: the accesses of the two sides do not disturb each other.
pub use Rattle.dae_core.proofs.QueueLaws.{UseOfA, UseOfE, a_nothing, a_load_ld, a_load_al, a_take_al, a_address, a_push_ab, a_push_cq, a_take_eb, e_nothing, e_take_ld, e_push_sd, e_take_ab, e_take_cq, e_push_eb, of_a, of_e, commits_ae, e_kept_by_a, a_kept_by_e, e_peek_by_a, a_peek_by_e}
