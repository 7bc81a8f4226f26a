use Rattle.dae_slice.proofs.items.link_test.Goals as goal

pub returns-in-Needs : goal.returns-in-Needs
returns-in-Needs c = rw c.in-Needs.is c.seed_decided.ensures
