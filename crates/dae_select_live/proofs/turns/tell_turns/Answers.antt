use Rattle.dae_select_live.proofs.turns.tell_turns.Goals as goal

pub returns : goal.returns
returns c = c.in_ok-tell_loops.ensures.told
