use Rattle.std.proofs.Common.{sym, ap, ◌∙◌}
use Rattle.dae_names.proofs.Rows.{pop_undoes_push}
use Rattle.dae_types_tables.specs.Named.{numbers_of}
use Rattle.dae_types_tables.proofs.Naming.{named_push}
use Rattle.dae_types_tables.proofs.names.NameTable.push.Goals as goal

pub invariant_of-self-in-Ok : goal.invariant_of-self-in-Ok
invariant_of-self-in-Ok c =
    named_push c.self.inside.rows.items c.self.inside.index c.self.invariant c.push.new.self.items c.args.row c.push-2.new.self c.in_ok-push.ensures.items c.in-Ok.ensures.pushed

pub invariant_of-self-in-Err : goal.invariant_of-self-in-Err
invariant_of-self-in-Err c =
    c.in-Err.ensures.kept ∙ c.self.invariant
    ∙ sym (ap numbers_of (pop_undoes_push c.self.inside.rows.items c.push.new.self.items c.pop.new.self.items c.args.row c.push.new.self.len c.push.new.self.ok.0 c.in_ok-push.ensures.items c.pop.ensures.rest))
