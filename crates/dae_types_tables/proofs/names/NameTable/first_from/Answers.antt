use Rattle.std.proofs.Common.{None, drop, find, ap, ◌∙◌}
use Rattle.dae_types_kinds.specs.Tables.{entity_of, is_named}
use Rattle.dae_types_tables.proofs.Naming.{named_before}
use Rattle.dae_types_tables.proofs.names.NameTable.first_from.Goals as goal

pub returns-then-at-start : goal.returns-then-at-start
returns-then-at-start c =
    rw (← c.self.view_is) (named_before c.self.inside.rows.items c.self.inside.index c.self.invariant c.args.start c.args.name _ c.in-Some.ensures c.if-at-start.true)

pub returns-else-at-start : goal.returns-else-at-start
returns-else-at-start c =
    c.first_entity.ensures ∙ ap (λ rows. entity_of (find (is_named c.args.name) (drop c.args.start rows))) (c.as_slice.ensures.value ∙ c.self.view_is)

pub returns-in-None : goal.returns-in-None
returns-in-None c =
    rw (← c.self.view_is) (named_before c.self.inside.rows.items c.self.inside.index c.self.invariant c.args.start c.args.name None c.in-None.ensures tt)
