-- A reply more, one whose put failed, and the two ends.
use Rattle.std.proofs.Common.{rules, sym, subst, arith}
use Rattle.dae_io.specs.Sinks.{IsPut, IsPutFailed}
use Rattle.dae_machine.specs.Held.{HeldMachine}
use Rattle.dae_cli_drive.specs.Turns.{Rested}
use Rattle.dae_cli_drive.proofs.Laws.{on_err}
use Rattle.dae_cli_debug_job.specs.Debugging.{ServesInPart}
use Rattle.dae_cli_debug_job.proofs.Served.{begins, ends, ends_here, goes_on, stops}
use Rattle.dae_cli_debug_job.proofs.serving.serve.Goals as goal

pub loop-command-init : goal.loop-command-init
loop-command-init g c = begins c.args.commands.now c.args.session.now (g.O.Sink.seen c.args.out.now) c.requires

pub returns-then-is_quit-clause-whole : goal.returns-then-is_quit-clause-whole
returns-then-is_quit-clause-whole g c =
    let way = c.loop-command.invariant in
    record {
      texts = way.done;
      replied = ends_here _ _ _ _ _ _ way c.command-item.result c.command-item.result (omega arith) (sym c.command-item.is) c.if-is_quit.ensures;
      put = way.put;
      stands = subst (λ (m : HeldMachine). Rested c.rested.result m.state.steps m.setup m.state) c.machine.ensures c.rested.ensures;
    }

pub returns-in_err-put-clause-part : goal.returns-in_err-put-clause-part
returns-in_err-put-clause-part g c =
    let way = c.loop-command.invariant in
    let failed : IsPutFailed c.reply_to.new.reply (g.O.Sink.seen c.loop-command.out) (g.O.Sink.seen c.put.new.self) = search rules in
    on_err c.from_residual.result (ServesInPart c.args.commands.now c.args.session.now (g.O.Sink.seen c.args.out.now) (g.O.Sink.seen c.put.new.self))
    (stops _ _ _ _ _ _ way c.command-item.result c.command-item.result (omega arith) (sym c.command-item.is) c.reply_to.new.reply c.reply_to.new.session c.reply_to.ensures
    (g.O.Sink.seen c.put.new.self) failed)

pub loop-command-preserved : goal.loop-command-preserved
loop-command-preserved g c =
    let way = c.loop-command.invariant in
    let put : IsPut c.reply_to.new.reply (g.O.Sink.seen c.loop-command.out) (g.O.Sink.seen c.put.new.self) = search rules in
    goes_on _ _ _ _ _ _ way c.command-item.result c.command-item.result (omega arith) (sym c.command-item.is) c.reply_to.new.reply c.reply_to.new.session c.reply_to.ensures
    (g.O.Sink.seen c.put.new.self) put

pub returns-clause-whole : goal.returns-clause-whole
returns-clause-whole g c =
    let way = c.loop-command.invariant in
    record {
      texts = way.done;
      replied = ends _ _ _ _ _ _ way (omega arith);
      put = way.put;
      stands = subst (λ (m : HeldMachine). Rested c.rested-2.result m.state.steps m.setup m.state) c.machine-2.ensures c.rested-2.ensures;
    }
