use Rattle.dae_guard.specs.Walk.{terms_of}
use Rattle.dae_guard_walk.specs.Spots.{node_of}
use Rattle.dae_guard_walk.proofs.WalkLaws.{steps_a, steps_e}
use Rattle.dae_guard_walk.proofs.walking.first_sure.Goals as goal

pub returns-in-Some-clause-is : goal.returns-in-Some-clause-is
returns-in-Some-clause-is c =
    steps_e (terms_of c.args.terms.now.image.now c.args.terms.now.depths) (node_of c.args.spot.now) c.in-Some.sure c.in-Some.ensures.is c.in-Some.ensures.side

pub returns-in-None-clause-is : goal.returns-in-None-clause-is
returns-in-None-clause-is c =
    steps_a (terms_of c.args.terms.now.image.now c.args.terms.now.depths) (node_of c.args.spot.now) c.next_sure-in-None.result c.in-None.ensures.is c.next_sure-in-None.ensures.is c.next_sure-in-None.ensures.side
