use Rattle.std.proofs.Common.{refl}
use Rattle.dae_lower.specs.Lowering.{unread}
use Rattle.dae_lower_expressions.specs.Lowered.{state_of}
use Rattle.dae_lower_programs.proofs.Loops.{unread_written}
use Rattle.dae_lower_programs.proofs.Rows.{leaf_whole}
use Rattle.dae_lower_maker.specs.Making.{so_far}
use Rattle.dae_lower_programs.proofs.statements.reserve_unread.Goals as goal

pub returns : goal.returns
returns c =
    leaf_whole (unread c.args.place) (state_of c.args.lowerer.now) (state_of (record { alloc = c.args.lowerer.now.alloc; maker = c.set.new.self; later = c.args.lowerer.now.later })) tt refl
    (unread_written c.args.place (so_far c.args.lowerer.now.maker) (so_far c.set.new.self) _ c.in_ok-set.ensures)
