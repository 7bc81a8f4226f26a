-- The laws of this crate that other crates use: of tests, numbers, options, lists and bytes, and of depths that reach a budget.
pub use Rattle.dae_base.proofs.Tests.{no_true, beq_same, and_first, and_second, and_not, and_false, and_nothing, and_along, or_nothing, or_along, same_tests, same_number, zero_suc, suc_zero, suc_suc, plus_small, suc_plus, times_least, choice_small}
pub use Rattle.dae_base.proofs.Options.{not_true, is_true, and_true, or_false, or_true, and_then_some, map_some_is, then_some_is, if_some_is, some_map, some_of, none_of}
pub use Rattle.dae_base.proofs.Lists.{find_more, find_passes, find_fails, any_more, drop_at, append_further, all_at, all_by_place, all_join, passes_at, ap_two, ap_three}
pub use Rattle.dae_base.proofs.Budgets.{none_below}
pub use Rattle.dae_base.proofs.Bytes.{length-low_bytes, lacks, Lacks, lacks_at, bytes-append, zero_bytes, byte_at, loads_are_words, stored_bytes, written_length, stored_length}
pub use Rattle.dae_base.proofs.Keys.{same_key, now_of, any_mapped, choose_mapped}
pub use Rattle.dae_base.proofs.Sums.{least_more, stopped, stopped_sum}
