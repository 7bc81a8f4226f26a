use Rattle.dae_types_externals.proofs.Parameters.{parameters_there}
use Rattle.dae_types_externals.proofs.definitions.parameters_of.Goals as goal

pub returns-in-Function : goal.returns-in-Function
returns-in-Function c =
    let w = c.in-Function in
    parameters_there c.args.part.now w.field-0 w.field-1 w.list c.as_slice.result.now w.is c.as_slice.ensures.value
