use Rattle.std.proofs.Common.{Option, sym, ◌∙◌}
use Rattle.dae_base.specs.declared.Place.{Place}
use Rattle.dae_tree.specs.Trees as tree
use Rattle.std.proofs.Common.{subst}
use Rattle.std.specs.Prelude.{IfOk}
use Rattle.dae_parse_grammar.specs.Machine.{closed_by, parameters_onto}
use Rattle.dae_parse_nodes.specs.Parts.{ShowsDeclared}
use Rattle.dae_parse_nodes.proofs.declarators.function.Goals as goal

pub returns-in-Some : goal.returns-in-Some
returns-in-Some c = λ d ps h k i.
    subst (λ (o : Option Place). IfOk c.void_function.result (λ r. ShowsDeclared r (closed_by o d c.args.place (parameters_onto ps tree.no_parameters)))) (sym c.in-Some.is ∙ k.void) (c.void_function.ensures d h)

pub returns-in-None : goal.returns-in-None
returns-in-None c = λ d ps h k i.
    subst (λ (o : Option Place). IfOk c.parameter_function.result (λ r. ShowsDeclared r (closed_by o d c.args.place (parameters_onto ps tree.no_parameters)))) (sym c.in-None.is ∙ k.void) (c.parameter_function.ensures d ps h k.read i)
