use Rattle.std.proofs.Common.{refl, ap}
use Rattle.dae_tree.specs.Trees as tree
use Rattle.dae_parse_grammar.specs.FirstPlaces.{firsts}
use Rattle.dae_parse_parts.specs.Shown.{in_box}
use Rattle.dae_parse_parts.proofs.Laws.{shows_leaf}
use Rattle.dae_tree.specs.Views.{view}
use Rattle.dae_parse_nodes.proofs.expressions.constant.Goals as goal

pub returns : goal.returns
returns c =
    record { read = shows_leaf (in_box view) firsts c.args.place c.flat.result c.in_ok-read.read _ (tree.Number c.args.place c.args.constant) c.flat.ensures.tree c.flat.ensures.places c.in_ok-read.ensures (ap view c.in_ok-new.ensures.ok) refl; level = refl; place = refl }
