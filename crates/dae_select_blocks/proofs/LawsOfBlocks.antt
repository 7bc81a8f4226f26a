-- The laws of this crate that proofs of other crates use: what code of functions does, how it begins, that it has words, how long its blocks are, which registers it keeps, and which actions are pairs.
pub use Rattle.dae_select_blocks.proofs.Function.{code_does}
pub use Rattle.dae_select_blocks.proofs.Beginning.{code_begins}
pub use Rattle.dae_select_blocks.proofs.Runs.{code_take, code_drop}
pub use Rattle.dae_select_blocks.proofs.Ranges.{words_are_code, fit_append}
pub use Rattle.dae_select_blocks.proofs.Fitted.{function_fits, start_fits, finish_fits, AreBelowQueues, live_registers}
pub use Rattle.dae_select_blocks.proofs.Lengths.{entry_short, leave_short, opening_short, finish_some, before_short, back_branch_short}
pub use Rattle.dae_select_blocks.proofs.Sizes.{append_short, code_length}
pub use Rattle.dae_select_blocks.proofs.Agreement.{key_apart, resident_high}
pub use Rattle.dae_select_blocks.proofs.Operands.{number_below}
pub use Rattle.dae_select_blocks.proofs.Values.{operation_is}
pub use Rattle.dae_select_blocks.proofs.Pairs.{ForAccesses, passed_on, offset_sum, by_pairs, Suits, suits_behind}
pub use Rattle.dae_select_blocks.proofs.Uses.{low}
