use Rattle.std.specs.Prelude.{drop}
use Rattle.dae_ir.specs.Streams.{actions_of}
use Rattle.dae_select_live.specs.Turns.{turns_told, TellsTurns, AreToldLater}
use Rattle.dae_select_live.proofs.turns.+loops.Given as goal

abbrev pub invariant-tell_loops-loop-index : goal.invariant-tell_loops-loop-index
invariant-tell_loops-loop-index l = record {
  told : TellsTurns (turns_told l.turns) (actions_of (drop l.index l.steps));
  later : AreToldLater (turns_told l.initial.turns) (turns_told l.turns);
}
