use Rattle.dae_cli_drive.proofs.Laws.{gives_budgeted, gives_unbudgeted}
use Rattle.dae_cli_options.proofs.Laws.{can_hold}
use Rattle.dae_cli_trace_jobs.specs.Checking.{answer_of, due_checked}
use Rattle.dae_cli_trace_jobs.proofs.Checked.{some_checked}
use Rattle.dae_cli_trace_jobs.proofs.checking.check_text.Goals as goal

pub returns-in-Err : goal.returns-in-Err
returns-in-Err g c = λ out.
    gives_unbudgeted out (g.N.Sink.seen c.args.note.now) (g.N.Sink.seen c.put_budget.new.note) (some_checked c.args.image.now c.args.depths.now c.args.text.now) c.in-Err.ensures.err

pub check-answer-requires-clause-holds : goal.check-answer-requires-clause-holds
check-answer-requires-clause-holds g c = can_hold c.depths.ensures.in_range

pub returns : goal.returns
returns g c = λ out.
    gives_budgeted out out (g.N.Sink.seen c.args.note.now) (g.N.Sink.seen c.put_budget.new.note) (g.N.Sink.seen c.tell_answer.new.note) c.in-Ok.ensures.ok
    (answer_of c.check-answer.result, due_checked c.check-answer.result (rw c.depths.ensures.value at c.check-answer.ensures), c.tell_answer.ensures out)
