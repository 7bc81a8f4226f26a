-- What was printed before.
use Rattle.std.specs.Prelude.{ℕ, List, ◌++◌}
use Rattle.dae_machine.specs.Machine.{State}

-- the state with this printed before what it printed itself
abbrev pub behind : List ℕ → State → State
behind xs s = record s { printed = xs ++ s.printed }
