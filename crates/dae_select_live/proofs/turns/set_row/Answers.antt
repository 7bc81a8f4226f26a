use Rattle.dae_select_live.proofs.turns.set_row.Goals as goal

pub returns : goal.returns
returns c = λ k. c.in_ok-insert.ensures.updates.0 k
