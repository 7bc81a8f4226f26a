use Rattle.dae_select_live.proofs.set.LiveSet.remove_known.Goals as goal

pub returns-in-Some : goal.returns-in-Some
returns-in-Some c = rw c.in-Some.is c.remove.ensures
