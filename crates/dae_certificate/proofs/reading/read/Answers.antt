use Rattle.std.proofs.Common.{◌≡◌, ◌+◌, ◌<◌, true, false, suc, length, reverse, refl, rules, arith}
use Rattle.std.proofs.lemmas.Bool.Decides.{nat_tests}
use Rattle.dae_certificate.specs.Cuts.{bytes_of}
use Rattle.dae_certificate.specs.Lines.{may_follow}
use Rattle.dae_certificate.proofs.Texts.{bad_line, not_spelled, not_here, left_is, turn}
use Rattle.dae_certificate.proofs.reading.read.Goals as goal
use Rattle.dae_certificate.proofs.reading.read.Goals.{in_default-via-in-Some+else-may_follow, in_default-via-in_default}

pub returns-in_default-clause-bad : goal.returns-in_default-clause-bad
returns-in_default-clause-bad c =
    let some : 0 < length c.loop-rest.rest.now = grind (arith, nat_tests) in
    let count : c.len.result + 1 ≡ suc (length c.loop-rest.lines) = omega (arith, c.len.ensures) in
    bad_line c.args.text.now c.loop-rest.rest.now c.cut.result.0.now c.loop-rest.lines (bytes_of c.cut.result.1) (c.len.result + 1)
    c.loop-rest.invariant.0 some c.cut.ensures count
    (elim c.in_default.branch [
      | in_default-via-in-Some+else-may_follow w ↦
          not_here c.cut.result.0.now c.loop-rest.lines w.in-Some.line w.in-Some.ensures
          (let off : may_follow (reverse c.loop-rest.lines) w.in-Some.line ≡ false = search rules in off)
      | in_default-via-in_default w ↦ not_spelled c.cut.result.0.now c.loop-rest.lines w.in_default.ensures
    ])

pub loop-rest-preserved : goal.loop-rest-preserved
loop-rest-preserved c =
    let some : 0 < length c.loop-rest.rest.now = grind (arith, nat_tests) in
    let follows : may_follow (reverse c.loop-rest.lines) c.in-Some.line ≡ true = search rules in
    turn c.args.text.now c.loop-rest.rest.now c.cut.result.0.now c.loop-rest.lines c.in-Some.line (bytes_of c.cut.result.1)
    c.push.new.self c.unwrap_or-rest.result.now c.loop-rest.invariant some c.cut.ensures c.in-Some.ensures follows
    c.in_ok-push-in-Some.ensures.ok (left_is c.cut.result.1 _ c.unwrap_or-rest.result c.unwrap_or-rest.ensures refl)
