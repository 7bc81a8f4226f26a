use Rattle.std.proofs.Common.{◌<◌, ap, sym, ◌∙◌, subst, arith}
use Rattle.dae_timing.specs.Held.{HeldClock}
use Rattle.dae_timing.proofs.Whole.{begins, then_taken, then_e, then_a, few_of, early_of, free_a_of, free_e_of, timed_after, whole_clock, whole_picks}
use Rattle.dae_timing.specs.Ticks.{picks_of, after_tick}
use Rattle.dae_timing.specs.Runs.{HasPick}
use Rattle.dae_timing.proofs.timed.Timed.tick.Goals as goal

pub fill-fill_e-requires : goal.fill-fill_e-requires
fill-fill_e-requires c =
    let t = ap (λ (h : HeldClock). h.clock.ticks) c.self.view_is in let r = c.requires in let early : c.self.inside.work.clock.ticks < 100000000000 = omega (arith, t, r) in
    record { few = few_of c.self.inside.work.clock.ticks _ (let h = c.fill-fill_a.new.self in h.clock) (then_taken _ _ _ _ _ _ (then_taken _ _ _ _ _ _ (begins c.self.inside.work.clock c.self.invariant) c.drain-drain.ensures.clock) c.fill-fill_a.ensures.clock) early (omega arith) }

pub go_e-e-requires-clause-few : goal.go_e-e-requires-clause-few
go_e-e-requires-clause-few c =
    let t = ap (λ (h : HeldClock). h.clock.ticks) c.self.view_is in let r = c.requires in let early : c.self.inside.work.clock.ticks < 100000000000 = omega (arith, t, r) in
    few_of c.self.inside.work.clock.ticks _ (let h = c.fill-fill_e.new.self in h.clock) (then_taken _ _ _ _ _ _ (then_taken _ _ _ _ _ _ (then_taken _ _ _ _ _ _ (begins c.self.inside.work.clock c.self.invariant) c.drain-drain.ensures.clock) c.fill-fill_a.ensures.clock) c.fill-fill_e.ensures.clock) early (omega arith)

pub go_e-e-requires-clause-early : goal.go_e-e-requires-clause-early
go_e-e-requires-clause-early c =
    let t = ap (λ (h : HeldClock). h.clock.ticks) c.self.view_is in let r = c.requires in let early : c.self.inside.work.clock.ticks < 100000000000 = omega (arith, t, r) in
    early_of c.self.inside.work.clock.ticks _ (let h = c.fill-fill_e.new.self in h.clock) (then_taken _ _ _ _ _ _ (then_taken _ _ _ _ _ _ (then_taken _ _ _ _ _ _ (begins c.self.inside.work.clock c.self.invariant) c.drain-drain.ensures.clock) c.fill-fill_a.ensures.clock) c.fill-fill_e.ensures.clock) early (omega arith)

pub go_e-e-requires-clause-room : goal.go_e-e-requires-clause-room
go_e-e-requires-clause-room c =
    let t = ap (λ (h : HeldClock). h.clock.ticks) c.self.view_is in let r = c.requires in let early : c.self.inside.work.clock.ticks < 100000000000 = omega (arith, t, r) in
    free_e_of c.self.inside.work.clock.ticks _ (let h = c.fill-fill_e.new.self in h.clock) (then_taken _ _ _ _ _ _ (then_taken _ _ _ _ _ _ (then_taken _ _ _ _ _ _ (begins c.self.inside.work.clock c.self.invariant) c.drain-drain.ensures.clock) c.fill-fill_a.ensures.clock) c.fill-fill_e.ensures.clock) early (omega arith)

pub go_a-a-requires-clause-few : goal.go_a-a-requires-clause-few
go_a-a-requires-clause-few c =
    let t = ap (λ (h : HeldClock). h.clock.ticks) c.self.view_is in let r = c.requires in let early : c.self.inside.work.clock.ticks < 100000000000 = omega (arith, t, r) in
    few_of c.self.inside.work.clock.ticks _ (let h = c.go_e-e.new.self in h.clock) (then_e _ _ _ _ _ _ _ (then_taken _ _ _ _ _ _ (then_taken _ _ _ _ _ _ (then_taken _ _ _ _ _ _ (begins c.self.inside.work.clock c.self.invariant) c.drain-drain.ensures.clock) c.fill-fill_a.ensures.clock) c.fill-fill_e.ensures.clock) c.go_e-e.ensures.clock) early (omega arith)

pub go_a-a-requires-clause-early : goal.go_a-a-requires-clause-early
go_a-a-requires-clause-early c =
    let t = ap (λ (h : HeldClock). h.clock.ticks) c.self.view_is in let r = c.requires in let early : c.self.inside.work.clock.ticks < 100000000000 = omega (arith, t, r) in
    early_of c.self.inside.work.clock.ticks _ (let h = c.go_e-e.new.self in h.clock) (then_e _ _ _ _ _ _ _ (then_taken _ _ _ _ _ _ (then_taken _ _ _ _ _ _ (then_taken _ _ _ _ _ _ (begins c.self.inside.work.clock c.self.invariant) c.drain-drain.ensures.clock) c.fill-fill_a.ensures.clock) c.fill-fill_e.ensures.clock) c.go_e-e.ensures.clock) early (omega arith)

pub go_a-a-requires-clause-room : goal.go_a-a-requires-clause-room
go_a-a-requires-clause-room c =
    let t = ap (λ (h : HeldClock). h.clock.ticks) c.self.view_is in let r = c.requires in let early : c.self.inside.work.clock.ticks < 100000000000 = omega (arith, t, r) in
    free_a_of c.self.inside.work.clock.ticks _ (let h = c.go_e-e.new.self in h.clock) (then_e _ _ _ _ _ _ _ (then_taken _ _ _ _ _ _ (then_taken _ _ _ _ _ _ (then_taken _ _ _ _ _ _ (begins c.self.inside.work.clock c.self.invariant) c.drain-drain.ensures.clock) c.fill-fill_a.ensures.clock) c.fill-fill_e.ensures.clock) c.go_e-e.ensures.clock) early (omega arith)

pub end_tick-requires : goal.end_tick-requires
end_tick-requires c =
    let t = ap (λ (h : HeldClock). h.clock.ticks) c.self.view_is in let r = c.requires in let early : c.self.inside.work.clock.ticks < 100000000000 = omega (arith, t, r) in
    early_of c.self.inside.work.clock.ticks _ (let h = c.go_a-a.new.self in h.clock) (then_a _ _ _ _ _ _ (then_e _ _ _ _ _ _ _ (then_taken _ _ _ _ _ _ (then_taken _ _ _ _ _ _ (then_taken _ _ _ _ _ _ (begins c.self.inside.work.clock c.self.invariant) c.drain-drain.ensures.clock) c.fill-fill_a.ensures.clock) c.fill-fill_e.ensures.clock) c.go_e-e.ensures.clock) c.go_a-a.ensures.clock) early (omega arith)

pub invariant_of-self : goal.invariant_of-self
invariant_of-self c = timed_after c.self.inside.work c.drain-drain.new.self c.fill-fill_a.new.self c.fill-fill_e.new.self c.go_e-e.new.self c.go_a-a.new.self c.end_tick.new.self c.go_e-e.result.1
    c.drain-drain.ensures.setup c.drain-drain.ensures.costs c.drain-drain.ensures.clock
    c.fill-fill_a.ensures.setup c.fill-fill_a.ensures.costs c.fill-fill_a.ensures.clock
    c.fill-fill_e.ensures.setup c.fill-fill_e.ensures.costs c.fill-fill_e.ensures.clock
    c.go_e-e.ensures.setup c.go_e-e.ensures.costs c.go_e-e.ensures.clock
    c.go_a-a.ensures.clock c.end_tick.ensures.clock c.self.invariant

pub returns-clause-ticks : goal.returns-clause-ticks
returns-clause-ticks c = record {
  goes = (let g : HasPick c.self.inside.work.setup (let d = c.self.inside.work.clock in d.state) = c.in-None.ensures in subst (λ (h : HeldClock). HasPick h.setup (let d = h.clock in d.state)) c.self.view_is g);
  picks = whole_picks c.self.inside.work c.drain-drain.new.self c.fill-fill_a.new.self c.fill-fill_e.new.self c.go_e-e.new.self c.go_a-a.new.self c.end_tick.new.self c.go_e-e.result.1
      c.drain-drain.ensures.setup c.drain-drain.ensures.costs c.drain-drain.ensures.clock
      c.fill-fill_a.ensures.setup c.fill-fill_a.ensures.costs c.fill-fill_a.ensures.clock
      c.fill-fill_e.ensures.setup c.fill-fill_e.ensures.costs c.fill-fill_e.ensures.clock
      c.go_e-e.ensures.setup c.go_e-e.ensures.costs c.go_e-e.ensures.clock
      c.go_a-a.ensures.clock c.end_tick.ensures.clock c.drain-drain.result c.go_a-a.result c.go_e-e.result.0 c.fill-fill_a.result c.fill-fill_e.result c.drain-drain.ensures.pick c.fill-fill_a.ensures.pick c.fill-fill_e.ensures.pick c.go_e-e.ensures.pick c.go_a-a.ensures.pick
      ∙ ap (λ (h : HeldClock). picks_of h.setup h.costs h.clock) c.self.view_is;
  clock = sym (ap (λ (h : HeldClock). after_tick h.setup h.costs h.clock) c.self.view_is) ∙ whole_clock c.self.inside.work c.drain-drain.new.self c.fill-fill_a.new.self c.fill-fill_e.new.self c.go_e-e.new.self c.go_a-a.new.self c.end_tick.new.self c.go_e-e.result.1
      c.drain-drain.ensures.setup c.drain-drain.ensures.costs c.drain-drain.ensures.clock
      c.fill-fill_a.ensures.setup c.fill-fill_a.ensures.costs c.fill-fill_a.ensures.clock
      c.fill-fill_e.ensures.setup c.fill-fill_e.ensures.costs c.fill-fill_e.ensures.clock
      c.go_e-e.ensures.setup c.go_e-e.ensures.costs c.go_e-e.ensures.clock
      c.go_a-a.ensures.clock c.end_tick.ensures.clock;
}
