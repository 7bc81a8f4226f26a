-- The replies so far were put.
use Rattle.dae_cli_debug_job.proofs.Served.{Serving}
use Rattle.dae_cli_debug_job.proofs.serving.serve.Given as goal

abbrev pub invariant-loop-command : goal.invariant-loop-command
invariant-loop-command g l = Serving l.commands l.initial.session l.command-index l.session (g.O.Sink.seen l.initial.out) (g.O.Sink.seen l.out)
