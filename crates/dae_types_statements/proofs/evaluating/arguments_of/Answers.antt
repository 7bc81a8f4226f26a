use Rattle.dae_types_statements.proofs.Printed.{arguments_seen}
use Rattle.dae_types_statements.proofs.evaluating.arguments_of.Goals as goal

pub returns-in-Call : goal.returns-in-Call
returns-in-Call c =
    let w = c.in-Call in
    arguments_seen _ w.field-0 w.field-1 w.list c.deref.result.now w.is c.deref.ensures.value
