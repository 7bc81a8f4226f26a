-- The laws of this crate that proofs of other crates use, beside the contracts of its law functions.
pub use Rattle.dae_machine.proofs.Confluence.{run-on, run-step}
pub use Rattle.dae_machine.proofs.Deeper.{runs_deeper}
pub use Rattle.dae_machine.proofs.Ends.{can_only_end, goes_on, meet_runs, prefix_refl, run_prints, step_counts}
pub use Rattle.dae_machine.proofs.Opening.{memory_length, data_fit, opened_counted}
pub use Rattle.dae_machine.proofs.Diamond.{counted_step}
pub use Rattle.dae_machine.proofs.Grants.{ready_for, ready_where}
pub use Rattle.dae_machine.proofs.Kept.{unplain_after}
pub use Rattle.dae_machine.proofs.Printing.{step_behind, pick_behind, quiet_behind, final_behind, stuck_behind, enabled_behind}
pub use Rattle.dae_machine.proofs.Scheduled.{is_turned}
pub use Rattle.dae_machine.proofs.Turns.{picked_goes, quiet_where_none, number_skips}
pub use Rattle.dae_machine.proofs.Walks.{ran_a, ran_e, access-append, often-append, execute-append}
pub use Rattle.dae_machine.proofs.Pushed.{words_wait, words-append}
