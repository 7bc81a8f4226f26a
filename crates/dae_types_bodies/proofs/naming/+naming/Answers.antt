use Rattle.dae_program.specs.Views.{view}
use Rattle.dae_types_file_plans.specs.Naming.{names_variable}
use Rattle.std.proofs.Common.{◌≡◌}
use Rattle.dae_program.proofs.LawsOfTrees.{by_call}
use Rattle.dae_types_bodies.proofs.naming.+naming.Goals as goal

pub names_variable-returns-in-Call : goal.names_variable-returns-in-Call
names_variable-returns-in-Call t c =
    by_call (λ e. c.some_names.result ≡ names_variable c.args.variable e) c.args.e.now c.in-Call.field-0 c.in-Call.field-1 c.in-Call.xs c.in-Call.is (rw (c.deref-in-Call.ensures.value) at (c.some_names.ensures))
