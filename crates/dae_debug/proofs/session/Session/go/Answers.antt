-- No step is left, or the turns.
use Rattle.std.proofs.Common.{arith}
use Rattle.dae_debug.proofs.Stepping.{go_made, go_spent}
use Rattle.dae_debug.proofs.session.Session.go.Goals as goal

pub returns-then-taken-ge-MOST_STEPS : goal.returns-then-taken-ge-MOST_STEPS
returns-then-taken-ge-MOST_STEPS c =
    let t = c.taken.ensures in
    let i = c.if-taken-ge-MOST_STEPS.true in
    go_spent _ _ _ c.args.turns _ c.self.view_is (omega (arith, t, i)) c.begin.ensures

pub returns-else-taken-ge-MOST_STEPS : goal.returns-else-taken-ge-MOST_STEPS
returns-else-taken-ge-MOST_STEPS c =
    let t = c.taken.ensures in
    let i = c.if-taken-ge-MOST_STEPS.false in
    go_made _ _ _ c.args.turns _ c.self.view_is c.go_on.new.machine c.taken-else-taken-ge-MOST_STEPS.result (omega (arith, t, i)) c.go_on.ensures
    c.taken-else-taken-ge-MOST_STEPS.ensures c.taken_text.ensures
