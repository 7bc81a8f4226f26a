use Rattle.dae_types_sound.proofs.UsedNumbers.{none_added, number_added}
use Rattle.dae_types_sound.proofs.used.add_number.Goals as goal

pub returns-in-Ok : goal.returns-in-Ok
returns-in-Ok c = rw c.in-Some.is (number_added c.args.numbers.now c.insert.new.self c.in-Some.number c.in-Ok.ensures.updates)

pub returns-in-None : goal.returns-in-None
returns-in-None c = rw c.in-None.is (none_added c.args.numbers.now)
