use Rattle.std.proofs.Common.{refl}
use Rattle.dae_lower.specs.Lowering.{effect_of_some}
use Rattle.dae_lower_expressions.specs.Lowered.{links_in, state_of}
use Rattle.dae_lower_programs.proofs.Rows.{block_whole}
use Rattle.dae_program.specs.Views.{view_some}
use Rattle.dae_lower_programs.proofs.statements.step_block.Goals as goal

pub returns : goal.returns
returns c =
    block_whole (effect_of_some (links_in c.args.none c.args.links.now) (view_some c.args.step.now)) (state_of c.args.lowerer.now) (state_of (record { alloc = c.args.lowerer.now.alloc; maker = c.begin_block-outer.new.self; later = c.args.lowerer.now.later })) (state_of c.effect_of_some.new.lowerer) _ c.begin_block-outer.result.items _ c.begin_block-outer.ensures.after refl c.begin_block-outer.ensures.outer c.in_ok-effect_of_some.ensures c.end_block.ensures.block c.end_block.ensures.after refl
