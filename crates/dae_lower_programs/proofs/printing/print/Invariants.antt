use Rattle.std.proofs.Common.{drop}
use Rattle.dae_lower.specs.Lowering.{prints}
use Rattle.dae_lower_expressions.specs.Lowered.{state_of}
use Rattle.dae_lower_programs.proofs.Rows.{Leads}
use Rattle.dae_lower_programs.proofs.printing.print.Given as goal

abbrev pub invariant-loop-piece : goal.invariant-loop-piece
invariant-loop-piece l = Leads (prints l.place l.pieces l.xs) (prints l.place (drop l.piece-index l.pieces) l.xs) (state_of l.initial.lowerer) (state_of l.lowerer)
