use Rattle.std.proofs.Common.{◌≡◌, Bool, refl, subst}
use Rattle.dae_guard.specs.Walk.{terms_of}
use Rattle.dae_guard.specs.Moves.{next_nodes}
use Rattle.dae_guard_walk.specs.Spots.{node_of, nodes_of}
use Rattle.dae_guard_walk.specs.Steps.{GoesOn}
use Rattle.dae_guard_walk.proofs.walking.leave.Goals as goal

pub returns-then-sure-clause-is : goal.returns-then-sure-clause-is
returns-then-sure-clause-is c =
    subst (λ (b : Bool). GoesOn b (next_nodes (terms_of c.args.terms.now.image.now c.args.terms.now.depths) (node_of c.args.spot)) (nodes_of c.args.ahead.now.items) (nodes_of c.go_on.new.ahead.items)) c.if-sure.true c.in_ok-sure.ensures.is

pub returns-else-sure-clause-is : goal.returns-else-sure-clause-is
returns-else-sure-clause-is c =
    (subst (λ (b : Bool). GoesOn b (next_nodes (terms_of c.args.terms.now.image.now c.args.terms.now.depths) (node_of c.args.spot)) (nodes_of c.args.ahead.now.items) (nodes_of c.go_on.new.ahead.items)) c.if-sure.false c.in_ok-sure.ensures.is, refl)
