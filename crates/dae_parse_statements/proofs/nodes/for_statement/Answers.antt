use Rattle.std.proofs.Common.{rules, ap}
use Rattle.dae_base.specs.declared.Place.{Place}
use Rattle.dae_parse_grammar.specs.Machine.{for_of}
use Rattle.dae_parse_grammar.specs.FirstPlaces.{firsts_optional}
use Rattle.dae_tree.specs.FileViews.{view_statement}
use Rattle.dae_parse_grammar.specs.FirstPlaces.{firsts_statement, both, over}
use Rattle.dae_parse_parts.proofs.Laws.{shows_pair, node_shown}
use Rattle.dae_parse_statements.proofs.nodes.for_statement.Goals as goal

pub returns : goal.returns
returns c = λ l u s h k b.
    let last = shows_pair _ _ _ _ c.optional-step.result c.args.body c.in_ok-last.last u s (c.optional-step.ensures u k) b c.in_ok-last.ensures in
    let rest = shows_pair _ _ _ _ c.optional-test.result c.in_ok-last.last c.in_ok-rest.rest l.test (u, s) (c.optional-test.ensures l.test h.test) last c.in_ok-rest.ensures in
    let parts = shows_pair _ _ _ _ c.optional-start.result c.in_ok-rest.rest c.in_ok-parts.parts l.start (l.test, (u, s)) (c.optional-start.ensures l.start h.start) rest c.in_ok-parts.ensures in
    node_shown _ _ view_statement firsts_statement _ c.args.parts.word c.in_ok-parts.parts c.node.result (l.start, (l.test, (u, s))) (for_of l u s) parts c.node.ensures (ap (λ (p : Place). over p (both (firsts_optional l.start) (both (firsts_optional l.test) (both (firsts_optional u) (firsts_statement s))))) h.word)
    (λ t n made e. search rules)
