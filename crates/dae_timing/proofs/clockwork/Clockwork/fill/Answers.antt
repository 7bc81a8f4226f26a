use Rattle.std.proofs.Common.{◌≡◌, refl, sym, ap, ◌∙◌, subst}
use Rattle.std.specs.Prelude.{Some}
use Rattle.dae_machine.specs.declared.Pick.{Pick}
use Rattle.dae_machine.specs.declared.Pick.TheVariants.{Fill}
use Rattle.dae_machine.specs.Machine.{step}
use Rattle.dae_machine.specs.Memory.{loads_of}
use Rattle.dae_timing.specs.Clocks.{issues_of}
use Rattle.dae_timing.specs.Held.{HeldClock, seen}
use Rattle.dae_timing.specs.Ticks.{after_fill, fill_of, after_pick}
use Rattle.dae_timing.proofs.Kept.{clock_filled, sound_filled}
use Rattle.dae_timing.proofs.Slots.{ripe_fills}
use Rattle.dae_timing.proofs.clockwork.Clockwork.fill.Goals as goal

pub invariant_of-self : goal.invariant_of-self
invariant_of-self c =
    let m = c.self.inside.machine in
    let n = c.step.new.self in
    let v = c.args.self.now in
    let found : fill_of v.setup v.costs c.args.side v.clock ≡ Some c.in_ok-pick.pick = sym c.in_ok-pick.ensures.pick in
    let x = ripe_fills v.setup v.clock.state c.args.side v.costs.load v.clock.ticks (let q = loads_of c.args.side v.clock.state.queues in q.slots) (issues_of c.args.side v.clock) c.in_ok-pick.pick found in
    let steps = subst (λ (p : Pick). step m.setup m.state p ≡ Some (let s = n.state in record s { printed = c.step.result })) x.1 c.step.ensures.state in
    sound_filled m n _ _ c.self.inside.ticks c.self.inside.ld c.self.inside.al c.args.side x.0 c.step.result c.self.invariant c.step.ensures.setup steps

pub returns-clause-clock : goal.returns-clause-clock
returns-clause-clock c =
    let m = c.self.inside.machine in
    let n = c.step.new.self in
    let v = c.args.self.now in
    let w = c.self.inside in
    let old : HeldClock = seen w.machine w.costs w.ticks w.ld w.al w.free_a w.free_e w.waits_a w.waits_e in
    let found : fill_of v.setup v.costs c.args.side v.clock ≡ Some c.in_ok-pick.pick = sym c.in_ok-pick.ensures.pick in
    let x = ripe_fills v.setup v.clock.state c.args.side v.costs.load v.clock.ticks (let q = loads_of c.args.side v.clock.state.queues in q.slots) (issues_of c.args.side v.clock) c.in_ok-pick.pick found in
    let steps = subst (λ (p : Pick). step m.setup m.state p ≡ Some (let s = n.state in record s { printed = c.step.result })) x.1 c.step.ensures.state in
    let here : fill_of m.setup w.costs c.args.side old.clock ≡ Some (Fill c.args.side x.0) = ap (λ (h : HeldClock). fill_of h.setup h.costs c.args.side h.clock) c.self.view_is ∙ found ∙ ap Some x.1 in
    clock_filled m n old.clock c.args.side x.0 c.step.result refl steps
    ∙ sym (ap (λ o. after_pick m.setup o old.clock) here)
    ∙ ap (λ (h : HeldClock). after_fill h.setup h.costs c.args.side h.clock) c.self.view_is
