use Rattle.std.proofs.Common.{List, refl, ap, subst, ◌∙◌, Bool}
use Rattle.dae_base.specs.declared.Place.{Place}
use Rattle.dae_tree.specs.Grammar.{void_alone}
use Rattle.dae_tree.specs.Names.{Names}
use Rattle.dae_tree.specs.Trees.{no_parameters}
use Rattle.dae_parse_grammar.specs.Machine.{parameters_onto, closed_by}
use Rattle.dae_parse_parts.specs.Scopes.{Scopes, innermost, closed_to}
use Rattle.dae_parse_parts.specs.ShownNames.{bound_all}
use Rattle.dae_parse_nodes.specs.Parts.{ShowsDeclared}
use Rattle.dae_parse_states.specs.States.{outside_stack}
use Rattle.dae_parse_declarations.proofs.Inner.{same_names}
use Rattle.dae_parse_declarations.proofs.parameters.close_parameters.Goals as goal

pub returns : goal.returns
returns c = λ o ps s h k e stands.
    let list = parameters_onto ps no_parameters in
    let now = c.args.machine.now.scope in
    let inner = c.in_ok-inner.ensures ∙ ap (λ (os : List Names). bound_all c.in_ok-inner.inner.items (innermost os)) stands.1 in
    let whole = c.in_ok-whole.ensures o.declarator ps h.declared k (λ bare names. same_names list c.in_ok-inner.inner.items o.outside (outside_stack s) names now.names c.parameters_add_names.ensures e inner) in (
      (h.manner, subst (λ (p : Place). ShowsDeclared c.in_ok-whole.whole (closed_by (void_alone list) o.declarator p list)) h.place whole),
      stands.0,
      ap (λ (v : Scopes Bool). v.names) c.close.ensures ∙ ap (λ (os : List Names). (closed_to now.names os).names) stands.1,
      refl,
      ap (λ (v : Scopes Bool). v.outside) c.close.ensures ∙ ap (λ (os : List Names). (closed_to now.names os).outside) stands.1,
    )
