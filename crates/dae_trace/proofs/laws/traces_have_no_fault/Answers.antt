use Rattle.dae_trace.proofs.Runs.{traces_fault_not}
use Rattle.dae_trace.proofs.laws.traces_have_no_fault.Goals as goal

pub returns : goal.returns
returns c = traces_fault_not
