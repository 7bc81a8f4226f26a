use Rattle.std.proofs.Common.{ap}
use Rattle.dae_ir.specs.Classes.{VariableSet}
use Rattle.dae_select_facts.proofs.sets.action_sets.Goals as goal

pub returns-in-None : goal.returns-in-None
returns-in-None c = ap (λ (s : VariableSet). s c.args.variable) c.in-None.ensures

pub returns-in-Some : goal.returns-in-Some
returns-in-Some c = ap (λ (s : VariableSet). s c.args.variable) c.in-Some.ensures
