-- Laws for the crates above.
pub use Rattle.dae_ir_pair.proofs.Programs.{program_kept}
pub use Rattle.dae_ir_pair.proofs.Split.{pair_keeps}
pub use Rattle.dae_ir_pair.proofs.Cover.{budget_covers}
pub use Rattle.dae_ir_pair.proofs.SmallBudget.{budget_is_within_cap}
pub use Rattle.dae_ir_pair.proofs.Sizes.{streams_are_small, words_are_bounded}
pub use Rattle.dae_ir_pair.proofs.FlowRounds.{streams_set_first}
