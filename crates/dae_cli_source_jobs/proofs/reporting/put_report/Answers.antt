use Rattle.std.proofs.Common.{◌≡◌, [], ◌∷◌, List, ℕ, refl, subst, rules}
use Rattle.dae_io.specs.Sinks.{IsPut, IsPutFailed}
use Rattle.dae_report.specs.Lines.{report_line}
use Rattle.dae_cli_drive.specs.Notes.{budget_line}
use Rattle.dae_cli_drive.specs.Puts.{Gives, Note, Out, answer, sinks}
use Rattle.dae_cli_drive.proofs.Laws.{gives_failed, gives_next}
use Rattle.dae_cli_source_jobs.specs.Reporting.{due_memory_to_report, due_reported}
use Rattle.dae_cli_source_jobs.proofs.reporting.put_report.Goals as goal

pub returns-in_default-clause-gives : goal.returns-in_default-clause-gives
returns-in_default-clause-gives g c = (_, due_memory_to_report, c.tell.ensures (g.O.Sink.seen c.args.out.now))

pub returns-in-Ok-put-clause-gives : goal.returns-in-Ok-put-clause-gives
returns-in-Ok-put-clause-gives g c =
    let image = c.args.compiled.now.image in
    let text : List ℕ = report_line image.budget c.args.compiled.now.report in
    let put : IsPut (budget_line image.budget) (g.N.Sink.seen c.args.note.now) (g.N.Sink.seen c.put.new.self) = search rules in
    let same : c.as_bytes-in-Ok-put.result.now ≡ text = search rules in
    let out = g.O.Sink.seen c.args.out.now in
    let after = sinks (g.O.Sink.seen c.put_line.new.out) (g.N.Sink.seen c.put.new.self) in
    let rest : Gives (answer 0 (Out text ∷ [])) c.put_line.result (sinks out (g.N.Sink.seen c.put.new.self)) after =
    subst (λ (line : List ℕ). Gives (answer 0 (Out line ∷ [])) c.put_line.result (sinks out (g.N.Sink.seen c.put.new.self)) after) same (c.put_line.ensures.gives (g.N.Sink.seen c.put.new.self)) in (
      _,
      due_reported,
      gives_next (Note (budget_line image.budget)) (Out text ∷ []) 0 c.put_line.result (sinks out (g.N.Sink.seen c.args.note.now)) (sinks out (g.N.Sink.seen c.put.new.self)) after (put, refl) rest,
    )

pub returns-clause-gives : goal.returns-clause-gives
returns-clause-gives g c =
    let image = c.args.compiled.now.image in
    let part : IsPutFailed (budget_line image.budget) (g.N.Sink.seen c.args.note.now) (g.N.Sink.seen c.put.new.self) = search rules in
    let out = g.O.Sink.seen c.args.out.now in (
      _,
      due_reported,
      gives_failed (Note (budget_line image.budget)) (Out (report_line image.budget c.args.compiled.now.report) ∷ []) 0 (sinks out (g.N.Sink.seen c.args.note.now)) (sinks out (g.N.Sink.seen c.put.new.self)) (part, refl),
    )
