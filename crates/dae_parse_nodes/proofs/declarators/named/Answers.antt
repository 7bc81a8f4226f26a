use Rattle.std.proofs.Common.{Bool, List, refl, sym, ap}
use Rattle.dae_tree.specs.Trees as tree
use Rattle.dae_parse_parts.specs.declared.scope.Binding.{Binding}
use Rattle.dae_parse_grammar.specs.FirstPlaces.{firsts_declarator}
use Rattle.dae_parse_parts.proofs.Laws.{shows_leaf}
use Rattle.dae_parse_parts.specs.Shown.{in_box}
use Rattle.dae_parse_parts.specs.ShownNames.{bound_all}
use Rattle.dae_tree.specs.Views.{view_declarator}
use Rattle.dae_parse_nodes.proofs.declarators.named.Goals as goal

pub returns : goal.returns
returns c =
    record {
      read = shows_leaf (in_box view_declarator) firsts_declarator c.args.name.place c.flat.result c.in_ok-read.read _ (tree.Named c.args.name) c.flat.ensures.tree c.flat.ensures.places c.in_ok-read.ensures (ap view_declarator c.in_ok-tree.ensures.ok) refl;
      name = refl;
      present = refl;
      bare = refl;
      parameters = λ names. ap (λ (list : List (Binding Bool)). bound_all list names) (sym c.new-parameters.ensures.items);
    }
