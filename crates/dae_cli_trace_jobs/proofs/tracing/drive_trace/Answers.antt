-- A line more, a put that failed, and the end.
use Rattle.std.proofs.Common.{rules, ◌≡◌, ℕ, suc, ◌+◌, ◌-◌, ap, sym, ◌∙◌, subst, arith}
use Rattle.dae_io.specs.Sinks.{IsPut, IsPutFailed}
use Rattle.dae_machine.specs.Schedules.{word_of}
use Rattle.dae_trace.specs.Lines.{line}
use Rattle.dae_cli_options.specs.declared.options.OptionValues.{OptionValues}
use Rattle.dae_cli_trace_jobs.proofs.Traced.{OnTheWay, arrives, begins, ends, goes_on, stops}
use Rattle.dae_cli_trace_jobs.proofs.tracing.drive_trace.Goals as goal

pub loop-init : goal.loop-init
loop-init g c =
    let coming_is = rw c.values-values.ensures.value at c.of-words.ensures in
    let none : 0 ≡ c.taken-counter.result - c.args.machine.now.state.steps = omega arith in
    record {
      begun = omega arith;
      way = subst (λ (turns : ℕ). OnTheWay c.args.machine.now.setup c.args.machine.now.state (word_of c.args.options.now.schedule) turns c.args.machine.now.setup c.args.machine.now.state c.of-words.result (g.O.Sink.seen c.args.out.now) (g.O.Sink.seen c.args.out.now)) none
          (begins c.args.machine.now.setup c.args.machine.now.state (word_of c.args.options.now.schedule) c.of-words.result (g.O.Sink.seen c.args.out.now) c.args.machine.now.silent coming_is);
    }

pub returns-then-is_err-clause-traces : goal.returns-then-is_err-clause-traces
returns-then-is_err-clause-traces g c =
    let bound : c.values-values.result.now.steps ≡ c.args.options.now.steps = ap (λ (o : OptionValues). o.steps) c.values-values.ensures.value in
    let below = c.loop-test.true in
    let begun = c.loop.invariant.begun in
    let stepped = c.put_step.ensures.stepped in
    let failed : IsPutFailed (line c.loop.machine.state c.in-Some.pick) (g.O.Sink.seen c.loop.out) (g.O.Sink.seen c.put_step.new.out) = search rules in
    stops _ _ c.args.options.now _ _ _ _ _ _ c.loop.invariant.way c.put_step.new.machine.state c.in-Some.pick stepped.0 c.next.result c.next.ensures.word
    (sym c.pick.ensures.pick ∙ c.in-Some.is) stepped.1.state (g.O.Sink.seen c.put_step.new.out) (omega arith) failed

pub returns-in_default-clause-traces : goal.returns-in_default-clause-traces
returns-in_default-clause-traces g c =
    let bound : c.values-values.result.now.steps ≡ c.args.options.now.steps = ap (λ (o : OptionValues). o.steps) c.values-values.ensures.value in
    let below = c.loop-test.true in
    let begun = c.loop.invariant.begun in
    ends _ _ c.args.options.now _ _ _ _ _ _ c.loop.invariant.way c.rested.result c.next.result (omega arith) (sym c.pick.ensures.pick ∙ c.in_default.is) c.rested.ensures

pub loop-preserved : goal.loop-preserved
loop-preserved g c =
    let below = c.loop-test.true in
    let begun = c.loop.invariant.begun in
    let stepped = c.put_step.ensures.stepped in
    let put : IsPut (line c.loop.machine.state c.in-Some.pick) (g.O.Sink.seen c.loop.out) (g.O.Sink.seen c.put_step.new.out) = search rules in
    let next : suc (c.loop.counter - c.args.machine.now.state.steps) ≡ c.loop.counter + 1 - c.args.machine.now.state.steps = omega arith in
    record {
      begun = omega arith;
      way = subst (λ (turns : ℕ). OnTheWay c.args.machine.now.setup c.args.machine.now.state (word_of c.args.options.now.schedule) turns c.put_step.new.machine.setup c.put_step.new.machine.state c.next.new.self (g.O.Sink.seen c.args.out.now) (g.O.Sink.seen c.put_step.new.out)) next
          (goes_on _ _ c.args.options.now _ _ _ _ _ _ c.loop.invariant.way c.put_step.new.machine.state c.in-Some.pick stepped.0 c.next.result c.next.ensures.word
          (sym c.pick.ensures.pick ∙ c.in-Some.is) stepped.1.state c.put_step.new.machine.setup c.next.new.self (g.O.Sink.seen c.put_step.new.out)
          c.next.ensures.rest stepped.1.setup c.put_step.new.machine.silent put);
    }

pub returns-clause-traces : goal.returns-clause-traces
returns-clause-traces g c =
    let most : c.values-values.result.now.steps ≡ c.args.options.now.steps = ap (λ (o : OptionValues). o.steps) c.values-values.ensures.value in
    let done = c.loop-test.false in
    let bound = c.loop.auto.counter-end in
    let begun = c.loop.invariant.begun in
    let first = c.requires in
    let steps = c.loop.invariant.way.steps in
    arrives _ _ c.args.options.now _ _ _ _ _ _ c.loop.invariant.way c.rested-2.result (omega arith) (omega arith) c.rested-2.ensures
