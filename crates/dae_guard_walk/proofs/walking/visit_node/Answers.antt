use Rattle.std.proofs.Common.{◌∙◌, sym}
use Rattle.dae_guard.specs.Walk.{terms_of}
use Rattle.dae_guard_walk.specs.Spots.{node_of, nodes_of}
use Rattle.dae_guard_walk.proofs.WalkLaws.{visit_on, visit_past}
use Rattle.dae_guard_walk.proofs.walking.visit_node.Goals as goal

pub returns-then-ends-clause-is : goal.returns-then-ends-clause-is
returns-then-ends-clause-is c = λ fuel.
    visit_past (terms_of c.args.terms.now.image.now c.args.terms.now.depths) c.args.certificate.now fuel (node_of c.args.spot) (nodes_of c.args.ahead.now.items) (sym c.ends.ensures ∙ c.if-ends.true)

pub returns-clause-is : goal.returns-clause-is
returns-clause-is c = λ fuel.
    visit_on (terms_of c.args.terms.now.image.now c.args.terms.now.depths) c.args.certificate.now fuel (node_of c.args.spot) (nodes_of c.args.ahead.now.items) (nodes_of c.leave.new.ahead.items) c.in_ok-left.left
    (sym c.ends.ensures ∙ c.if-ends.false) c.in_ok-left.ensures.is
