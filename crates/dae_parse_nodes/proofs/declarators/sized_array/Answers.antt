use Rattle.std.proofs.Common.{rules, refl, ap, ◌∙◌}
use Rattle.dae_base.specs.declared.Place.{Place}
use Rattle.dae_tree.specs.Trees as tree
use Rattle.dae_parse_nodes.proofs.Declaring.{place_at_first}
use Rattle.dae_tree.specs.Views.{view_declarator}
use Rattle.dae_parse_grammar.specs.FirstPlaces.{firsts_declarator, both, over, firsts}
use Rattle.dae_parse_parts.proofs.Laws.{shows_node, shows_pair}
use Rattle.dae_parse_nodes.proofs.declarators.sized_array.Goals as goal

pub returns : goal.returns
returns c = λ d a h k.
    let parts = shows_pair _ _ _ _ c.args.declared.read c.args.size.read c.in_ok-parts.parts d a h.read k.read c.in_ok-parts.ensures in
    record {
      read = shows_node _ _ view_declarator firsts_declarator _ c.first_or-first.result c.in_ok-parts.parts c.in_ok-read.read (d, a) (tree.Sized d c.args.place a) parts c.in_ok-read.ensures (ap (λ (p : Place). over p (both (firsts_declarator d) (firsts a))) (c.first_or-first.ensures ∙ place_at_first c.args.declared.read d c.args.place h.read))
          (λ t n made e. search rules);
      name = h.name;
      present = refl;
      bare = refl;
      parameters = h.parameters;
    }
