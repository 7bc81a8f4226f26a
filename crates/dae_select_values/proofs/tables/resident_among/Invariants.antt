use Rattle.std.specs.Prelude.{◌≡◌, drop}
use Rattle.dae_select_walks.specs.Homes.{resident_home}
use Rattle.dae_select_values.proofs.tables.resident_among.Given as goal

-- what the numbers from here on tell is what all tell
abbrev pub invariant-loop-other : goal.invariant-loop-other
invariant-loop-other l = resident_home l.register (drop l.other-index l.residents) l.number ≡ resident_home 27 l.residents l.number
