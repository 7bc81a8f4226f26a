use Rattle.std.proofs.Common.{◌≡◌, rules, [], refl, ap, ◌∙◌}
use Rattle.dae_base.proofs.Laws.{ap_two}
use Rattle.dae_tree.specs.declared.statements.Block.{Block}
use Rattle.dae_tree.specs.declared.statements.Statement.TheVariants as statement
use Rattle.dae_tree.specs.Trees as tree
use Rattle.dae_parse_grammar.specs.Machine.{onto, statements_onto}
use Rattle.dae_tree.specs.FileViews.{view_statement}
use Rattle.dae_parse_grammar.specs.FirstPlaces.{firsts_statement}
use Rattle.dae_parse_nodes.proofs.Laws.{shows_declarations, shows_statements}
use Rattle.dae_tree.proofs.Laws.{view_block}
use Rattle.dae_parse_parts.proofs.Laws.{shows_pair, node_shown}
use Rattle.dae_parse_statements.proofs.nodes.block.Goals as goal

pub returns : goal.returns
returns c = λ ds ss h k.
    let parts = shows_pair _ _ _ _ c.args.declarations c.args.statements c.in_ok-parts.parts (onto ds []) (statements_onto ss tree.no_statements) (shows_declarations c.args.declarations ds h) (shows_statements c.args.statements ss k) c.in_ok-parts.ensures in
    node_shown _ _ view_statement firsts_statement _ c.args.place c.in_ok-parts.parts c.node.result ((onto ds []), (statements_onto ss tree.no_statements)) (tree.Block c.args.place (onto ds []) (statements_onto ss tree.no_statements)) parts c.node.ensures refl
    (λ t n made e.
    let b : Block = record { place = c.args.place; declarations = t.0; statements = t.1 } in
    let m : n ≡ statement.Block b = search rules in
    ap view_statement m ∙ view_block b ∙ ap_two (tree.Block c.args.place) (ap (λ (p : _). p.0) e) (ap (λ (p : _). p.1) e))
