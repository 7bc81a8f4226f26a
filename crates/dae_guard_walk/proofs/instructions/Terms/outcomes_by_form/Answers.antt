use Rattle.std.proofs.Common.{◌≡◌, ◌∙◌, sym}
use Rattle.dae_guard.specs.Walk.{terms_of}
use Rattle.dae_encode.specs.Instructions.{form}
use Rattle.dae_guard_walk.proofs.InstructionLaws.{shifts_so, computes_so, calls_so}
use Rattle.dae_guard_walk.proofs.instructions.Terms.outcomes_by_form.Goals as goal

pub compute-requires-clause-shifts : goal.compute-requires-clause-shifts
compute-requires-clause-shifts c =
    shifts_so c.args.inst.now c.form_of.result c.in-Computes.target c.in-Computes.first c.in-Computes.second c.args.from.now.ranges c.args.step.given c.form_of.ensures c.in-Computes.is

pub returns-in-Computes-clause-is : goal.returns-in-Computes-clause-is
returns-in-Computes-clause-is c = λ q e h.
    computes_so (terms_of c.args.self.now.image.now c.args.self.now.depths) c.args.step.side c.args.from.now.ranges c.args.step.counter q c.args.step.access c.args.inst.now (form c.args.inst.now)
    c.in-Computes.target c.in-Computes.first c.in-Computes.second c.args.step.given c.compute.result (sym c.form_of.ensures ∙ c.in-Computes.is) e c.compute.ensures.is

pub returns-in-Calls-clause-is : goal.returns-in-Calls-clause-is
returns-in-Calls-clause-is c = λ q e h.
    calls_so (terms_of c.args.self.now.image.now c.args.self.now.depths) c.args.step.side c.args.from.now.ranges c.args.step.counter q c.args.step.access c.args.inst.now c.form_of.result (form c.args.inst.now)
    c.call.result c.in-Calls.is c.form_of.ensures h c.call.ensures.is
