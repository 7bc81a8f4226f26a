use Rattle.std.proofs.Common.{refl, ap}
use Rattle.dae_tree.specs.Trees as tree
use Rattle.dae_parse_grammar.specs.FirstPlaces.{firsts_statement}
use Rattle.dae_parse_parts.specs.Shown.{in_box}
use Rattle.dae_parse_parts.proofs.Laws.{leaf_shown}
use Rattle.dae_tree.specs.FileViews.{view_statement}
use Rattle.dae_parse_statements.proofs.nodes.continue_statement.Goals as goal

pub returns : goal.returns
returns c =
    leaf_shown (in_box view_statement) firsts_statement c.args.place c.flat.result c.over.result _ (tree.Continue c.args.place c.args.end) c.flat.ensures.tree c.flat.ensures.places c.over.ensures (ap view_statement c.in_ok-new.ensures.ok) refl
