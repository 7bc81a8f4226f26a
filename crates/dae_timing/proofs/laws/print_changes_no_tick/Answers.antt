use Rattle.dae_timing.proofs.Apart.{print_is_apart, ticks_behind}
use Rattle.dae_timing.proofs.laws.print_changes_no_tick.Goals as goal

pub returns-clause-tick : goal.returns-clause-tick
returns-clause-tick c = print_is_apart

pub returns-clause-ticks : goal.returns-clause-ticks
returns-clause-ticks c = λ setup k xs n c d ps t. ticks_behind setup k xs n c d ps t
