use Rattle.std.proofs.Common.{refl}
use Rattle.dae_lower.specs.Lowering.{text_loop}
use Rattle.dae_lower_expressions.specs.Lowered.{state_of}
use Rattle.dae_lower_programs.proofs.Loops.{text_written}
use Rattle.dae_lower_programs.proofs.Rows.{leaf_whole}
use Rattle.dae_lower_maker.specs.Making.{so_far}
use Rattle.dae_lower_programs.proofs.printing.print_text.Goals as goal

pub returns : goal.returns
returns c =
    leaf_whole (text_loop c.args.place c.args.x) (state_of c.args.lowerer.now) (state_of (record { alloc = c.args.lowerer.now.alloc; maker = c.repeat.new.self; later = c.args.lowerer.now.later })) tt refl
    (text_written c.args.place c.args.x (so_far c.args.lowerer.now.maker) (so_far c.reserve-address.new.self) (so_far c.reserve-byte.new.self) (so_far c.item.new.self) (so_far c.repeat.new.self) c.reserve-address.result c.reserve-byte.result c.in_ok-body.body.items c.in_ok-step.step.items
    c.reserve-address.ensures.given c.reserve-address.ensures.after c.reserve-byte.ensures.given c.reserve-byte.ensures.after c.in_ok-body.ensures c.in_ok-step.ensures c.in_ok-item.ensures c.in_ok-repeat.ensures)
