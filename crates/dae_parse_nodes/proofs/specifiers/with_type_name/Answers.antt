use Rattle.std.proofs.Common.{refl}
use Rattle.dae_tree.specs.Trees as tree
use Rattle.dae_parse_grammar.specs.FirstPlaces.{firsts_specifier}
use Rattle.dae_parse_parts.proofs.Laws.{shows_flat}
use Rattle.dae_tree.specs.Views.{view_specifier}
use Rattle.dae_parse_nodes.proofs.specifiers.with_type_name.Goals as goal

pub returns : goal.returns
returns c = λ ws h.
    c.with_specifier.ensures ws (tree.TypeName c.args.name) h (shows_flat view_specifier firsts_specifier c.flat-read.result _ (tree.TypeName c.args.name) c.flat-read.ensures.tree c.flat-read.ensures.places refl refl) refl refl
