use Rattle.dae_slice.proofs.Statements.{Walked}
use Rattle.dae_slice.proofs.walk.+walk.Given as goal

abbrev pub invariant-link_statements-loop-statement : goal.invariant-link_statements-loop-statement
invariant-link_statements-loop-statement l = Walked l.sought l.function l.statements l.statement-index l.initial.graph l.graph
