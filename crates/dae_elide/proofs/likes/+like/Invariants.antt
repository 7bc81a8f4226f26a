use Rattle.dae_elide.proofs.Walked.{AreLike}
use Rattle.dae_elide.proofs.likes.+like.Given as goal

abbrev pub invariant-steps_like-loop-statement : goal.invariant-steps_like-loop-statement
invariant-steps_like-loop-statement l = AreLike l.statements l.statement-index l.steps.items
