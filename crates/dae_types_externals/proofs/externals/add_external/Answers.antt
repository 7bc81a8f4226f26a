use Rattle.dae_types_externals.proofs.Steps.{external_of}
use Rattle.dae_types_externals.proofs.externals.add_external.Goals as goal

pub returns-in-Definition : goal.returns-in-Definition
returns-in-Definition c =
    let w = c.in-Definition in
    external_of _ _ _ c.args.external.now w.specifiers w.declarator w.block c.deref.result.now c.deref-in-Definition.result.now _ w.is c.deref.ensures.value c.deref-in-Definition.ensures c.add_definition.ensures
