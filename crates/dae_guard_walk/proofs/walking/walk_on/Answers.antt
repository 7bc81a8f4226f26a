use Rattle.std.proofs.Common.{◌≡◌, ◌<◌, length, arith}
use Rattle.std.proofs.lemmas.Bool.Decides.{nat_tests}
use Rattle.dae_guard.specs.Walk.{terms_of, walk}
use Rattle.dae_guard_walk.specs.Spots.{nodes_of}
use Rattle.dae_guard_walk.proofs.WalkLaws.{ends_here, passes_here, stops_here, turns_on}
use Rattle.dae_guard_walk.proofs.walking.walk_on.Goals as goal

pub returns-in-Some : goal.returns-in-Some
returns-in-Some c =
    let t = terms_of c.args.terms.now.image.now c.args.terms.now.depths in
    stops_here t c.args.certificate.now c.loop-walked.walked (nodes_of c.loop-walked.ahead.items) (nodes_of c.visit.new.ahead.items) c.in_ok-visited.visited c.in-Some.end
    (walk t c.args.certificate.now 9999 (nodes_of c.args.stack.items)) c.loop-walked-test.true c.in-Some.is c.in_ok-visited.ensures.is c.loop-walked.invariant.rest

pub loop-walked-preserved : goal.loop-walked-preserved
loop-walked-preserved c =
    let t = terms_of c.args.terms.now.image.now c.args.terms.now.depths in
    record {
      holds = c.in_ok-visited.ensures.holds;
      rest = turns_on t c.args.certificate.now c.loop-walked.walked (nodes_of c.loop-walked.ahead.items) (nodes_of c.visit.new.ahead.items) c.in_ok-visited.visited
          (walk t c.args.certificate.now 9999 (nodes_of c.args.stack.items)) c.loop-walked-test.true c.in_default.not-Some c.in_ok-visited.ensures.is c.loop-walked.invariant.rest;
    }

pub returns-then-is_empty : goal.returns-then-is_empty
returns-then-is_empty c =
    let t = terms_of c.args.terms.now.image.now c.args.terms.now.depths in
    let none : length c.loop-walked.ahead.items ≡ 0 = grind (arith, nat_tests) in
    ends_here t c.args.certificate.now c.loop-walked.walked c.loop-walked.ahead.items (walk t c.args.certificate.now 9999 (nodes_of c.args.stack.items)) none c.loop-walked.invariant.rest

pub returns : goal.returns
returns c =
    let t = terms_of c.args.terms.now.image.now c.args.terms.now.depths in
    let some : 0 < length c.loop-walked.ahead.items = grind (arith, nat_tests) in
    passes_here t c.args.certificate.now c.loop-walked.walked c.loop-walked.ahead.items (walk t c.args.certificate.now 9999 (nodes_of c.args.stack.items)) c.loop-walked-test.false some c.loop-walked.invariant.rest
