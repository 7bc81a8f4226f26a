use Rattle.std.proofs.Common.{refl}
use Rattle.dae_lower_expressions.specs.Lowered.{state_of}
use Rattle.dae_lower_programs.proofs.Wholes.{slot_written}
use Rattle.dae_lower_programs.specs.Functions.{slot_stored}
use Rattle.dae_lower_programs.proofs.Laws.{leaf_whole}
use Rattle.dae_lower_maker.specs.Making.{so_far}
use Rattle.dae_lower_programs.proofs.functions.store_in.Goals as goal

pub returns : goal.returns
returns c =
    let old = c.args.lowerer.now in
    leaf_whole (slot_stored c.args.place c.args.variable c.args.slot) (state_of old) (state_of (record { alloc = old.alloc; maker = c.item-2.new.self; later = old.later })) tt refl
    (slot_written c.args.place c.args.variable c.args.slot (so_far old.maker) (so_far c.reserve-address.new.self) (so_far c.item.new.self) (so_far c.item-2.new.self) c.reserve-address.result c.reserve-address.ensures.given c.reserve-address.ensures.after c.in_ok-item.ensures c.in_ok-item-2.ensures)
