use Rattle.std.proofs.Common.{rules, ◌≡◌, ◌+◌, ◌-◌, suc, [], ◌∷◌, ap, map, subst, arith}
use Rattle.dae_cli_options.specs.declared.options.OptionValues.{OptionValues}
use Rattle.dae_cli_drive.specs.Turns.{AreOut}
use Rattle.dae_cli_drive.specs.Pieces.{then_later}
use Rattle.dae_cli_drive.specs.Puts.{Out}
use Rattle.dae_io.specs.Sinks.{IsPutFailed}
use Rattle.dae_cli_drive.proofs.OnTheWay.{OnTheWay, arrives_so, ends_final, ends_stuck, goes_on, stops}
use Rattle.dae_cli_drive.proofs.driving.drive.Goals as goal

pub returns-then-is_err-clause-drives : goal.returns-then-is_err-clause-drives
returns-then-is_err-clause-drives g c =
    let one : then_later c.in-Stepped.piece [] ≡ c.in-Stepped.piece ∷ [] = search rules in
    let failed : IsPutFailed c.in-Stepped.piece (g.O.Sink.seen c.loop.out) (g.O.Sink.seen c.put_piece.new.out) = search rules in
    let bound : c.values.result.now.steps ≡ c.args.options.now.steps = ap (λ (o : OptionValues). o.steps) c.values.ensures.value in
    let below = c.loop-test.true in
    let begun = c.loop.invariant.begun in
    stops _ _ _ _ _ _ _ _ _ c.loop.invariant.way c.args.options.now.steps c.turn.new.self.setup c.turn.new.self.state c.next.new.self c.in-Stepped.field-0 c.in-Stepped.piece c.next.result (g.O.Sink.seen c.put_piece.new.out) (omega arith) c.next.ensures.word c.next.ensures.rest c.in-Stepped.ensures.turn c.turn.new.self.silent one failed

pub returns-in-Final-clause-drives : goal.returns-in-Final-clause-drives
returns-in-Final-clause-drives g c =
    let bound : c.values.result.now.steps ≡ c.args.options.now.steps = ap (λ (o : OptionValues). o.steps) c.values.ensures.value in
    let below = c.loop-test.true in
    let begun = c.loop.invariant.begun in
    ends_final _ _ _ _ _ _ _ _ _ c.loop.invariant.way c.args.options.now.steps c.turn.new.self.setup c.turn.new.self.state c.next.new.self c.in-Final.end c.next.result (omega arith) c.next.ensures.rest c.in-Final.ensures.turn

pub returns-in-Stuck-clause-drives : goal.returns-in-Stuck-clause-drives
returns-in-Stuck-clause-drives g c =
    let bound : c.values.result.now.steps ≡ c.args.options.now.steps = ap (λ (o : OptionValues). o.steps) c.values.ensures.value in
    let below = c.loop-test.true in
    let begun = c.loop.invariant.begun in
    ends_stuck _ _ _ _ _ _ _ _ _ c.loop.invariant.way c.args.options.now.steps c.turn.new.self.setup c.turn.new.self.state c.next.new.self c.next.result (omega arith) c.next.ensures.rest c.in-Stuck.ensures.turn

pub loop-preserved : goal.loop-preserved
loop-preserved g c =
    let put : AreOut (map Out (then_later c.in-Stepped.piece [])) (g.O.Sink.seen c.loop.out) (g.O.Sink.seen c.put_piece.new.out) = search rules in
    let below = c.loop-test.true in
    let begun = c.loop.invariant.begun in
    let next : suc (c.loop.counter - c.args.machine.now.state.steps) ≡ c.loop.counter + 1 - c.args.machine.now.state.steps = omega arith in
    record {
      begun = omega arith;
      way = subst (λ (turns : _). OnTheWay c.args.machine.now.setup c.args.machine.now.state c.args.words.now turns c.turn.new.self.setup c.turn.new.self.state c.next.new.self (g.O.Sink.seen c.args.out.now) (g.O.Sink.seen c.put_piece.new.out)) next
          (goes_on _ _ _ _ _ _ _ _ _ c.loop.invariant.way c.turn.new.self.setup c.turn.new.self.state c.next.new.self c.in-Stepped.field-0 c.in-Stepped.piece c.next.result (g.O.Sink.seen c.put_piece.new.out) c.next.ensures.word c.next.ensures.rest c.in-Stepped.ensures.setup c.in-Stepped.ensures.turn c.turn.new.self.silent put);
    }

pub returns-clause-drives : goal.returns-clause-drives
returns-clause-drives g c =
    let most : c.values.result.now.steps ≡ c.args.options.now.steps = ap (λ (o : OptionValues). o.steps) c.values.ensures.value in
    let done = c.loop-test.false in
    let bound = c.loop.auto.counter-end in
    let begun = c.loop.invariant.begun in
    let first = c.requires in
    let steps = c.loop.invariant.way.steps in
    arrives_so _ _ _ _ _ _ _ _ _ c.loop.invariant.way c.args.options.now.steps c.rested.result (omega arith) (omega arith) c.rested.ensures
