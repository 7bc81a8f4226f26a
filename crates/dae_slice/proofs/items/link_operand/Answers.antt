use Rattle.dae_slice.proofs.items.link_operand.Goals as goal

pub returns-in_ok-link : goal.returns-in_ok-link
returns-in_ok-link c = rw c.in-Variable.is c.in_ok-link.ensures
