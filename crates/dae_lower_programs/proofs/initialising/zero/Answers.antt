use Rattle.std.proofs.Common.{◌+◌, refl}
use Rattle.dae_base.specs.Words.{plus}
use Rattle.dae_lower.specs.Lowering.{only, zeros}
use Rattle.dae_lower_expressions.specs.Lowered.{state_of}
use Rattle.dae_lower_programs.proofs.Loops.{zeros_written}
use Rattle.dae_lower_programs.proofs.Rows.{leaf_whole}
use Rattle.dae_lower_maker.specs.Making.{so_far}
use Rattle.dae_lower_programs.proofs.initialising.zero.Goals as goal

pub returns : goal.returns
returns c =
    leaf_whole (λ n. only (zeros c.args.aggregate.place c.args.aggregate.offset c.args.aggregate.size n) n (n + 2)) (state_of c.args.lowerer.now) (state_of (record { alloc = c.args.lowerer.now.alloc; maker = c.repeat.new.self; later = c.args.lowerer.now.later })) c.reserve-address.result refl
    (zeros_written c.args.aggregate.place c.args.aggregate.offset c.args.aggregate.size (plus c.args.aggregate.offset c.args.aggregate.size) (so_far c.args.lowerer.now.maker) (so_far c.reserve-address.new.self) (so_far c.reserve-end.new.self) (so_far c.item.new.self) (so_far c.item-2.new.self) (so_far c.repeat.new.self) c.reserve-address.result c.reserve-end.result c.in_ok-body.body.items c.new-step.result.items
    c.reserve-address.ensures.given c.reserve-address.ensures.after c.reserve-end.ensures.given c.reserve-end.ensures.after refl c.in_ok-body.ensures c.new-step.ensures.items c.in_ok-item.ensures c.in_ok-item-2.ensures c.in_ok-repeat.ensures)
