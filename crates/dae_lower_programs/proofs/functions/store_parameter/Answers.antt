use Rattle.dae_lower_expressions.specs.Lowered.{state_of}
use Rattle.dae_lower_programs.specs.Functions.{slot_stored}
use Rattle.dae_lower_programs.proofs.Laws.{last_whole, nothing_whole}
use Rattle.dae_lower_programs.proofs.functions.store_parameter.Goals as goal

pub returns-in_ok-store_in-in-Some : goal.returns-in_ok-store_in-in-Some
returns-in_ok-store_in-in-Some c = rw (c.in-Some.is) (last_whole (slot_stored c.args.place c.args.number c.in-Some.slot) (state_of c.args.lowerer.now) (state_of c.store_in.new.lowerer) tt c.in_ok-store_in-in-Some.ensures)

pub returns-in-None : goal.returns-in-None
returns-in-None c = rw (c.in-None.is) (nothing_whole (state_of c.args.lowerer.now) tt)
