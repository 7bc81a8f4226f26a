use Rattle.std.proofs.Common.{◌≡◌, ℕ, suc, List, refl, sym, subst}
use Rattle.dae_guard.specs.Sets.{Node}
use Rattle.dae_guard.specs.Walk.{terms_of, walk}
use Rattle.dae_guard_walk.specs.Spots.{nodes_of}
use Rattle.dae_guard_walk.specs.Visits.{Visits}
use Rattle.dae_guard_walk.proofs.WalkLaws.{stack_end}
use Rattle.dae_guard_walk.proofs.walking.visit.Goals as goal

pub returns-in-None-clause-is : goal.returns-in-None-clause-is
returns-in-None-clause-is c = λ fuel.
    stack_end (terms_of c.args.terms.now.image.now c.args.terms.now.depths) c.args.certificate.now (suc fuel) (nodes_of c.args.ahead.now.items) (c.in-None.ensures.none refl)

pub returns-in_ok-visited-in-Some-clause-is : goal.returns-in_ok-visited-in-Some-clause-is
returns-in_ok-visited-in-Some-clause-is c = λ fuel.
    let t = terms_of c.args.terms.now.image.now c.args.terms.now.depths in
    subst (λ (ms : List Node). Visits c.in_ok-visited-in-Some.visited (walk t c.args.certificate.now (suc fuel) ms) (walk t c.args.certificate.now fuel (nodes_of c.visit_node.new.ahead.items)))
    (sym c.in-Some.ensures.some.0) (c.in_ok-visited-in-Some.ensures.is fuel)
