use Rattle.std.proofs.Common.{◌<◌, length, arith}
use Rattle.dae_types_tables.proofs.Naming.{named_found, named_inside, named_nowhere}
use Rattle.dae_types_tables.proofs.names.NameTable.latest.Goals as goal

pub index-requires : goal.index-requires
index-requires c =
    let inside : c.in-Some.at < length c.self.inside.rows.items = named_inside c.self.inside.rows.items c.self.inside.index c.self.invariant c.args.name c.in-Some.at c.in-Some.ensures in
    omega (arith, inside, c.self.inside.rows.ok.0)

pub returns-in-Some : goal.returns-in-Some
returns-in-Some c =
    rw (← c.self.view_is) (named_found c.self.inside.rows.items c.self.inside.index c.self.invariant c.args.name c.in-Some.at c.index.result.now c.in-Some.ensures c.index.ensures)

pub returns-in-None : goal.returns-in-None
returns-in-None c =
    rw (← c.self.view_is) (named_nowhere c.self.inside.rows.items c.self.inside.index c.self.invariant c.args.name c.in-None.ensures)
