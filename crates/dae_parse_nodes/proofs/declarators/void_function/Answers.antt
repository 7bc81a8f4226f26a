use Rattle.std.proofs.Common.{rules, refl, ap, ◌∙◌}
use Rattle.dae_base.specs.declared.Place.{Place}
use Rattle.dae_tree.specs.Trees as tree
use Rattle.dae_parse_nodes.proofs.Declaring.{place_at_first}
use Rattle.dae_tree.specs.Views.{view_declarator}
use Rattle.dae_parse_grammar.specs.FirstPlaces.{firsts_declarator, over}
use Rattle.dae_parse_parts.proofs.Laws.{shows_node}
use Rattle.dae_parse_nodes.proofs.declarators.void_function.Goals as goal

pub returns : goal.returns
returns c = λ d h.
    record {
      read = shows_node _ _ view_declarator firsts_declarator _ c.first_or-first.result c.args.declared.read c.in_ok-read.read d (tree.Void d c.args.place c.args.void) h.read c.in_ok-read.ensures (ap (λ (p : Place). over p (firsts_declarator d)) (c.first_or-first.ensures ∙ place_at_first c.args.declared.read d c.args.place h.read))
          (λ t n made e. search rules);
      name = h.name;
      present = refl;
      bare = refl;
      parameters = h.parameters;
    }
