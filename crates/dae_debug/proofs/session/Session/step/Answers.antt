-- No step is left, the step of the pick, or none.
use Rattle.std.proofs.Common.{◌∙◌, sym, ap, rules, arith}
use Rattle.dae_debug.proofs.Stepping.{step_made, step_not, step_spent}
use Rattle.dae_debug.proofs.session.Session.step.Goals as goal

pub returns-then-taken-ge-MOST_STEPS : goal.returns-then-taken-ge-MOST_STEPS
returns-then-taken-ge-MOST_STEPS c =
    let t = c.taken.ensures in
    let i = c.if-taken-ge-MOST_STEPS.true in
    step_spent _ _ _ c.args.pick _ c.self.view_is (omega (arith, t, i)) c.begin.ensures

pub returns-then-enabled : goal.returns-then-enabled
returns-then-enabled c =
    let t = c.taken.ensures in
    let i = c.if-taken-ge-MOST_STEPS.false in
    step_made _ _ _ c.args.pick _ c.self.view_is c.step.new.self c.step.result (omega (arith, t, i)) c.step.ensures.setup c.step.ensures.state
    (c.begin-then-enabled.ensures ∙ c.as_bytes.ensures.same ∙ c.line.ensures)

pub returns-else-enabled : goal.returns-else-enabled
returns-else-enabled c =
    let t = c.taken.ensures in
    let i = c.if-taken-ge-MOST_STEPS.false in
    step_not _ _ _ c.args.pick _ c.self.view_is (omega (arith, t, i)) (sym c.enabled.ensures ∙ c.if-enabled.false) c.begin-else-enabled.ensures
