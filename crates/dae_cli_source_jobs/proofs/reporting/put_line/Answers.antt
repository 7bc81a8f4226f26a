use Rattle.std.proofs.Common.{[], refl}
use Rattle.dae_cli_drive.specs.Puts.{Out, sinks}
use Rattle.dae_cli_drive.proofs.Laws.{gives_failed}
use Rattle.dae_cli_source_jobs.proofs.reporting.put_line.Goals as goal

pub returns-in-Err-clause-gives : goal.returns-in-Err-clause-gives
returns-in-Err-clause-gives g c = λ note. gives_failed (Out c.args.line.now) [] 0 (sinks (g.O.Sink.seen c.args.out.now) note) (sinks (g.O.Sink.seen c.put.new.self) note) (c.in-Err.ensures.part, refl)
