use Rattle.std.proofs.Common.{[], refl}
use Rattle.dae_cli_drive.specs.Puts.{Note, sinks}
use Rattle.dae_cli_drive.proofs.Puts.{gives_failed}
use Rattle.dae_cli_drive.proofs.stop.noted.Goals as goal

pub returns-in-Err : goal.returns-in-Err
returns-in-Err g c = λ out. gives_failed (Note c.args.line.now) [] c.args.status (sinks out (g.N.Sink.seen c.args.note.now)) (sinks out (g.N.Sink.seen c.put.new.self)) (c.in-Err.ensures.part, refl)
