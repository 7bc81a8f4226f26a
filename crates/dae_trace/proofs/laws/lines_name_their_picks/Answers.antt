use Rattle.dae_trace.proofs.Naming.{names_one}
use Rattle.dae_trace.proofs.Runs.{lines_named}
use Rattle.dae_trace.proofs.laws.lines_name_their_picks.Goals as goal

pub returns-clause-named : goal.returns-clause-named
returns-clause-named c = lines_named

pub returns-clause-one : goal.returns-clause-one
returns-clause-one c = names_one
