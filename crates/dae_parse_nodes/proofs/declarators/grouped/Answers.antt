use Rattle.std.proofs.Common.{rules, refl}
use Rattle.dae_tree.specs.Trees as tree
use Rattle.dae_tree.specs.Views.{view_declarator}
use Rattle.dae_parse_grammar.specs.FirstPlaces.{firsts_declarator}
use Rattle.dae_parse_parts.proofs.Laws.{shows_node}
use Rattle.dae_parse_nodes.proofs.declarators.grouped.Goals as goal

pub returns : goal.returns
returns c = λ d h.
    record {
      read = shows_node _ _ view_declarator firsts_declarator _ c.args.place c.args.declared.read c.in_ok-read.read d (tree.Grouped c.args.place d) h.read c.in_ok-read.ensures refl
          (λ t n made e. search rules);
      name = h.name;
      present = refl;
      bare = h.bare;
      parameters = h.parameters;
    }
