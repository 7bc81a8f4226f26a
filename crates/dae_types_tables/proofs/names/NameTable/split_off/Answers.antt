use Rattle.dae_types_tables.proofs.Naming.{named_cut}
use Rattle.dae_types_tables.proofs.names.NameTable.split_off.Goals as goal

pub invariant_of-self-2 : goal.invariant_of-self-2
invariant_of-self-2 c =
    named_cut c.self.inside.rows.items c.self.inside.index c.self.invariant c.split_off.new.self.items c.truncate.new.self c.args.count c.in_ok-rest.ensures.items c.truncate.ensures

pub returns : goal.returns
returns c = rw (← c.self.view_is) (record { front = c.in_ok-rest.ensures.items; rest = c.in_ok-rest.ensures.tail })
