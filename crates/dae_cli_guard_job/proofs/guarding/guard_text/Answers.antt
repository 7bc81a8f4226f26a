use Rattle.dae_guard_walk.specs.declared.guarding.GuardAnswer.TheVariants.{Memory}
use Rattle.dae_cli_guard_job.specs.Guarding.{answer_of, due_guard}
use Rattle.dae_cli_guard_job.proofs.guarding.guard_text.Goals as goal

pub returns : goal.returns
returns g c = λ out.
    (answer_of c.guard-answer.result, due_guard c.guard-answer.result (rw c.depths.ensures.value at c.guard-answer.ensures.due) (rw c.depths.ensures.value at c.guard-answer.ensures.guards), c.tell_answer.ensures out)

pub returns-in_default : goal.returns-in_default
returns-in_default g c = λ out. (answer_of Memory, due_guard Memory tt (λ e. absurd cc), c.tell.ensures out)
