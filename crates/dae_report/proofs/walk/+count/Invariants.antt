use Rattle.dae_ir.specs.Classes.{classes_in}
use Rattle.dae_report.proofs.Sums.{CountedTo}
use Rattle.dae_report.proofs.walk.+count.Given as goal

abbrev pub invariant-count_statements-loop-statement : goal.invariant-count_statements-loop-statement
invariant-count_statements-loop-statement l = CountedTo (classes_in l.row) l.statements l.statement-index l.initial.counts l.counts
