use Rattle.std.proofs.Common.{rules, refl}
use Rattle.dae_io.specs.Sinks.{IsPut}
use Rattle.dae_cli_drive.specs.Notes.{budget_line}
use Rattle.dae_cli_drive.specs.Puts.{sinks}
use Rattle.dae_cli_drive.proofs.image.put_budget.Goals as goal

pub returns-in-Ok-put-clause-ok : goal.returns-in-Ok-put-clause-ok
returns-in-Ok-put-clause-ok g c = λ out.
    let put : IsPut (budget_line c.args.image.now.budget) (g.N.Sink.seen c.args.note.now) (g.N.Sink.seen c.put.new.self) = search rules in
    (sinks out (g.N.Sink.seen c.put.new.self), (put, refl), refl)
