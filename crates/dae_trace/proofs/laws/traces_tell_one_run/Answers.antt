use Rattle.dae_trace.proofs.Runs.{traces_lead_to_one, traces_pick_one}
use Rattle.dae_trace.proofs.laws.traces_tell_one_run.Goals as goal

pub returns-clause-picks : goal.returns-clause-picks
returns-clause-picks c = traces_pick_one

pub returns-clause-state : goal.returns-clause-state
returns-clause-state c = traces_lead_to_one
