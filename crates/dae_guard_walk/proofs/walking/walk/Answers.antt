use Rattle.std.proofs.Common.{◌∙◌, ap, sym}
use Rattle.dae_guard.specs.Walk.{terms_of}
use Rattle.dae_guard_walk.specs.Answers.{walked_of}
use Rattle.dae_guard_walk.specs.Spots.{node_of, nodes_of}
use Rattle.dae_guard_walk.proofs.WalkLaws.{start_halts, start_on, starts_final}
use Rattle.dae_guard_walk.proofs.walking.walk.Goals as goal

pub returns-then-is_final : goal.returns-then-is_final
returns-then-is_final c = starts_final (terms_of c.args.terms.now.image.now c.args.terms.now.depths) c.args.certificate.now (node_of c.args.start) (sym c.is_final.ensures ∙ c.if-is_final.true)

pub returns-in-Some : goal.returns-in-Some
returns-in-Some c =
    start_halts (terms_of c.args.terms.now.image.now c.args.terms.now.depths) c.args.certificate.now (node_of c.args.start) c.in_ok-left.left (nodes_of c.new-ahead.result.items) (nodes_of c.leave.new.ahead.items) c.in-Some.walked
    (sym c.is_final.ensures ∙ c.if-is_final.false) c.in-Some.is c.in_ok-left.ensures.is

pub returns-in_ok-walked-in-None : goal.returns-in_ok-walked-in-None
returns-in_ok-walked-in-None c =
    start_on (terms_of c.args.terms.now.image.now c.args.terms.now.depths) c.args.certificate.now (node_of c.args.start) c.in_ok-left.left (nodes_of c.new-ahead.result.items) (nodes_of c.leave.new.ahead.items) (walked_of c.in_ok-walked-in-None.walked)
    (sym c.is_final.ensures ∙ c.if-is_final.false) (ap nodes_of c.new-ahead.ensures.items) c.in-None.is c.in_ok-left.ensures.is c.in_ok-walked-in-None.ensures
