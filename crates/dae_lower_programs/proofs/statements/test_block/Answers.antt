use Rattle.std.proofs.Common.{refl}
use Rattle.dae_lower.specs.Lowering.{leave_unless}
use Rattle.dae_lower_expressions.specs.Lowered.{links_in, state_of}
use Rattle.dae_lower_programs.proofs.Rows.{block_whole}
use Rattle.dae_program.specs.Views.{view}
use Rattle.dae_lower_programs.proofs.statements.test_block.Goals as goal

pub returns : goal.returns
returns c =
    block_whole (leave_unless (links_in c.args.none c.args.links.now) c.args.place (view c.args.e.now)) (state_of c.args.lowerer.now) (state_of (record { alloc = c.args.lowerer.now.alloc; maker = c.begin_block-outer.new.self; later = c.args.lowerer.now.later })) (state_of c.leave_unless.new.lowerer) _ c.begin_block-outer.result.items _ c.begin_block-outer.ensures.after refl c.begin_block-outer.ensures.outer c.in_ok-leave_unless.ensures c.end_block.ensures.block c.end_block.ensures.after refl
