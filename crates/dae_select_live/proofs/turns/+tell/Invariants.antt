use Rattle.std.specs.Prelude.{drop}
use Rattle.dae_ir.specs.Streams.{actions_of}
use Rattle.dae_select_walks.specs.Live.{ways}
use Rattle.dae_select_live.specs.Members.{member}
use Rattle.dae_select_live.specs.Turns.{turns_told, TellsTurns, AreToldLater}
use Rattle.dae_select_live.proofs.Laws.{LiveFrom}
use Rattle.dae_select_live.proofs.turns.+tell.Given as goal

abbrev pub invariant-tell_in_list-loop-index : goal.invariant-tell_in_list-loop-index
invariant-tell_in_list-loop-index l = record {
  live : LiveFrom l.steps l.index (ways (member l.fn.next) (member l.leaves) (member l.skips)) (member l.set);
  told : TellsTurns (turns_told l.turns) (actions_of (drop l.index l.steps));
  later : AreToldLater (turns_told l.initial.turns) (turns_told l.turns);
}
