use Rattle.std.proofs.Common.{Bool, List, refl, sym, ap}
use Rattle.dae_tree.specs.Trees as tree
use Rattle.dae_tree.specs.Views.{view_declarator}
use Rattle.dae_parse_grammar.specs.FirstPlaces.{firsts_declarator}
use Rattle.dae_parse_parts.specs.declared.scope.Binding.{Binding}
use Rattle.dae_parse_parts.specs.Shown.{in_box}
use Rattle.dae_parse_parts.specs.ShownNames.{bound_all}
use Rattle.dae_parse_parts.proofs.Laws.{shows_flat}
use Rattle.dae_parse_nodes.proofs.declarators.absent.Goals as goal

pub returns : goal.returns
returns c =
    record {
      read = shows_flat (in_box view_declarator) firsts_declarator c.flat.result _ tree.Absent c.flat.ensures.tree c.flat.ensures.places (ap view_declarator c.in_ok-tree.ensures.ok) refl;
      name = refl;
      present = refl;
      bare = refl;
      parameters = λ names. ap (λ (list : List (Binding Bool)). bound_all list names) (sym c.new-parameters.ensures.items);
    }
