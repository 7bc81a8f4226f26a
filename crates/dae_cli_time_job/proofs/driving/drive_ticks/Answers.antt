use Rattle.std.proofs.Common.{◌≡◌, ◌+◌, suc, subst, arith}
use Rattle.dae_timing.specs.declared.timed.TickState.{TickState}
use Rattle.dae_timing.specs.declared.timed.TickState.TheVariants.{Final, Stuck}
use Rattle.dae_timing.specs.Runs.{MakesTick, TicksTo}
use Rattle.dae_cli_time_job.proofs.OnTheWay.{IsOnWay, arrives, begins, ends_final, ends_stuck, goes_on, stops}
use Rattle.dae_cli_time_job.proofs.driving.drive_ticks.Goals as goal

pub loop-init : goal.loop-init
loop-init g c = begins c.args.timed.now (g.O.Sink.seen c.args.out.now) c.requires.opened

pub tick-tick-requires : goal.tick-tick-requires
tick-tick-requires g c =
    let counted = c.loop.invariant.counted in
    let below = c.loop-test.true in
    let few = c.requires.few in
    omega (arith, counted, below, few)

pub returns-in-Err-clause-drives : goal.returns-in-Err-clause-drives
returns-in-Err-clause-drives g c =
    let makes : MakesTick c.tick-tick.result c.loop.timed c.tick-tick.new.self = subst (λ (s : TickState). TicksTo s c.tick-tick.result c.loop.timed c.tick-tick.new.self) c.in-Going.is c.tick-tick.ensures.ticks in
    stops c.args.timed.now c.requires.opened c.loop.counter c.loop.timed (g.O.Sink.seen c.args.out.now) (g.O.Sink.seen c.loop.out) c.loop.invariant c.tick-tick.result c.tick-tick.new.self makes c.args.most (g.O.Sink.seen c.put_print.new.out) (let below = c.loop-test.true in omega arith) c.in-Err.ensures.part c.in-Err.ensures.failed

pub returns-in-Final-clause-drives : goal.returns-in-Final-clause-drives
returns-in-Final-clause-drives g c =
    let e : TicksTo (Final c.in-Final.end) c.tick-tick.result c.loop.timed c.tick-tick.new.self = subst (λ (s : TickState). TicksTo s c.tick-tick.result c.loop.timed c.tick-tick.new.self) c.in-Final.is c.tick-tick.ensures.ticks in
    ends_final c.args.timed.now c.loop.counter c.loop.timed (g.O.Sink.seen c.args.out.now) (g.O.Sink.seen c.loop.out) c.loop.invariant c.args.most c.in-Final.end c.tick-tick.new.self (let below = c.loop-test.true in omega arith) e.2.same e.0 e.1

pub returns-in-Stuck-clause-drives : goal.returns-in-Stuck-clause-drives
returns-in-Stuck-clause-drives g c =
    let e : TicksTo Stuck c.tick-tick.result c.loop.timed c.tick-tick.new.self = subst (λ (s : TickState). TicksTo s c.tick-tick.result c.loop.timed c.tick-tick.new.self) c.in-Stuck.is c.tick-tick.ensures.ticks in
    ends_stuck c.args.timed.now c.loop.counter c.loop.timed (g.O.Sink.seen c.args.out.now) (g.O.Sink.seen c.loop.out) c.loop.invariant c.args.most c.tick-tick.new.self (let below = c.loop-test.true in omega arith) e.1.same e.0

pub loop-preserved : goal.loop-preserved
loop-preserved g c =
    let makes : MakesTick c.tick-tick.result c.loop.timed c.tick-tick.new.self = subst (λ (s : TickState). TicksTo s c.tick-tick.result c.loop.timed c.tick-tick.new.self) c.in-Going.is c.tick-tick.ensures.ticks in
    let next : suc c.loop.counter ≡ c.loop.counter + 1 = omega arith in
    subst (λ (n : _). IsOnWay c.args.timed.now n c.tick-tick.new.self (g.O.Sink.seen c.args.out.now) (g.O.Sink.seen c.put_print.new.out)) next
    (goes_on c.args.timed.now c.requires.opened c.loop.counter c.loop.timed (g.O.Sink.seen c.args.out.now) (g.O.Sink.seen c.loop.out) c.loop.invariant c.tick-tick.result c.tick-tick.new.self makes (g.O.Sink.seen c.put_print.new.out) c.tick-tick.ensures.setup c.tick-tick.ensures.costs c.in-Ok.ensures.whole)

pub returns-clause-drives : goal.returns-clause-drives
returns-clause-drives g c =
    let done = c.loop-test.false in
    let bound = c.loop.auto.counter-end in
    arrives c.args.timed.now c.loop.counter c.loop.timed (g.O.Sink.seen c.args.out.now) (g.O.Sink.seen c.loop.out) c.loop.invariant c.args.most c.rest_of.result (omega arith) (rw (c.machine.ensures.setup, c.machine.ensures.state) at c.rest_of.ensures)
