-- Laws for the crates above: of statements and steps that hold others, of what is set first, and of what forms do.
pub use Rattle.dae_ir.proofs.Rows.{before_if, before_loop, items_of_if, items_of_loop, each_before, onto_if, onto_loop}
pub use Rattle.dae_ir.proofs.Walks.{rest, rest_one, rest_end, all_before, before_end, form_before, onto_push, read_end, take_one}
pub use Rattle.dae_ir.proofs.More.{meet, and_more, set_more, has_more, test_more, value_more, check_more, operands_more, assured_more, first_more}
pub use Rattle.dae_ir.proofs.Replaced.{KeepsArguments, same_room}
pub use Rattle.dae_ir.proofs.Along.{memory_kept}
pub use Rattle.dae_ir.proofs.Turns.{more_turns}
pub use Rattle.dae_ir.proofs.Advance.{going_takes_turns}
pub use Rattle.dae_ir.proofs.Counted.{fewer_loads}
pub use Rattle.dae_ir.proofs.Tables.{row_behind, classes_behind}
