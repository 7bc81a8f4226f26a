use Rattle.std.proofs.Common.{◌≡◌, ◌∙◌, sym, ap}
use Rattle.std.proofs.lemmas.List.Folds.{list_any_at}
use Rattle.dae_guard.specs.Nodes.{covers}
use Rattle.dae_guard_walk.specs.Spots.{node_of}
use Rattle.dae_guard.proofs.LawsOfSlots.{any_more_at}
use Rattle.dae_guard_walk.proofs.WalkLaws.{none_of_all}
use Rattle.dae_guard_walk.proofs.walking.any_covers.Goals as goal

pub returns-then-covers : goal.returns-then-covers
returns-then-covers c =
    sym (list_any_at (covers (node_of c.args.spot.now)) c.args.certificate.now c.loop-known.known-index c.known-item.result c.loop-known-test.true
    (ap (covers (node_of c.args.spot.now)) (sym c.known-item.is) ∙ (sym c.covers.ensures ∙ c.if-covers.true)))

pub loop-known-preserved : goal.loop-known-preserved
loop-known-preserved c =
    any_more_at (covers (node_of c.args.spot.now)) c.args.certificate.now c.loop-known.known-index c.known-item.result c.loop-known-test.true c.known-item.is
    c.loop-known.invariant (sym c.covers.ensures ∙ c.if-covers.false)

pub returns : goal.returns
returns c =
    none_of_all (covers (node_of c.args.spot.now)) c.args.certificate.now c.loop-known.known-index c.loop-known-test.false c.loop-known.invariant
