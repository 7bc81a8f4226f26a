use Rattle.dae_types_values.proofs.Rows.{view_call}
use Rattle.dae_types_values.proofs.calls.routine_call.Goals as goal

pub returns : goal.returns
returns c = view_call c.args.place c.args.function c.args.arguments
