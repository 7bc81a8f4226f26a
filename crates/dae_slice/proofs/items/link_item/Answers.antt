use Rattle.dae_slice.proofs.items.link_item.Goals as goal

pub returns-in-Addresses : goal.returns-in-Addresses
returns-in-Addresses c = rw c.in-Addresses.is c.link_addresses.ensures

pub returns-in-Needs : goal.returns-in-Needs
returns-in-Needs c = rw c.in-Needs.is c.link_needs.ensures
