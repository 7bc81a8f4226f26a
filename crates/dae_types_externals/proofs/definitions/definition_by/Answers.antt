use Rattle.dae_types_tables.specs.Seen.{tables}
use Rattle.dae_types_externals.proofs.Steps.{definition_of}
use Rattle.dae_types_externals.proofs.definitions.definition_by.Goals as goal

pub returns : goal.returns
returns c =
    definition_of _ _ c.args.place c.args.word _ c.name-name.result _ _ c.args.body.now c.args.type_id (tables c.args.checker.now) c.parameters_in-parameters.ensures c.name-name.ensures c.definition.ensures
