use Rattle.std.proofs.Common.{◌≡◌, [], ◌∷◌, ◌∙◌, Bool, sym, ap, subst}
use Rattle.std.specs.List.{All}
use Rattle.std.proofs.lemmas.List.Elements.{All-push}
use Rattle.dae_guard.specs.Walk.{terms_of}
use Rattle.dae_guard.specs.Moves.{next_nodes}
use Rattle.dae_guard.specs.Kept.{IsMade, served, waiting_of}
use Rattle.dae_guard_walk.specs.Spots.{Holds, node_of, nodes_of}
use Rattle.dae_guard_walk.specs.Steps.{stepped}
use Rattle.dae_guard_walk.proofs.WalkLaws.{goes_so, next_served, next_steps, nodes_more, with_waiting}
use Rattle.dae_guard_walk.proofs.walking.go_on.Goals as goal

pub returns-then-serve-clause-is : goal.returns-then-serve-clause-is
returns-then-serve-clause-is c =
    let w = waiting_of c.args.spot.queues in
    let made = subst (λ (b : Bool). IsMade b (served w) w (waiting_of c.serve.new.self)) c.if-serve.true c.serve.ensures.made in (
      record (node_of c.args.spot) { waiting = waiting_of c.serve.new.self } ∷ [],
      next_served (terms_of c.args.terms.now.image.now c.args.terms.now.depths) (node_of c.args.spot) (waiting_of c.serve.new.self) made,
      ap nodes_of c.in_ok-push.ensures.items ∙ nodes_more c.args.ahead.now.items (record { a = c.args.spot.a; e = c.args.spot.e; queues = c.serve.new.self }),
    )

pub returns-then-serve-clause-holds : goal.returns-then-serve-clause-holds
returns-then-serve-clause-holds c =
    subst (All Holds) (sym c.in_ok-push.ensures.items)
    (All-push Holds c.args.ahead.now.items (record { a = c.args.spot.a; e = c.args.spot.e; queues = c.serve.new.self }) c.requires.ahead
    (record { a = c.requires.spot.a; e = c.requires.spot.e; queues = c.serve.ensures.holds }))

pub returns-clause-is : goal.returns-clause-is
returns-clause-is c =
    let w = waiting_of c.args.spot.queues in
    let t = terms_of c.args.terms.now.image.now c.args.terms.now.depths in
    let made = subst (λ (b : Bool). IsMade b (served w) w (waiting_of c.serve.new.self)) c.if-serve.false c.serve.ensures.made in
    goes_so c.in_ok-sure.sure (next_nodes t (node_of c.args.spot)) (stepped t (record (node_of c.args.spot) { waiting = waiting_of c.serve.new.self }))
    (nodes_of c.args.ahead.now.items) (nodes_of c.step.new.ahead.items)
    (next_steps t (node_of c.args.spot) made.0 ∙ ap (stepped t) (with_waiting (node_of c.args.spot) (waiting_of c.serve.new.self) made.1))
    c.in_ok-sure.ensures.is
