use Rattle.std.proofs.Common.{◌∙◌}
use Rattle.dae_types_kinds.specs.declared.tables.Entity.TheVariants as entity
use Rattle.dae_types_kinds.specs.Types.{layout_at}
use Rattle.dae_types_typed.specs.Sound.{is_used, tables_of}
use Rattle.dae_types_sound.proofs.UsedNumbers.{told, untold}
use Rattle.dae_types_sound.proofs.tables.used_layout.Goals as goal

pub returns-then-contains : goal.returns-then-contains
returns-then-contains c =
    let parts = c.args.parts.now in let n = c.args.number in
    told c.contains.result (is_used parts.uses (entity.Object n)) c.layout_at.result (layout_at (tables_of parts) c.args.object.type_id) (c.contains.ensures ∙ c.requires n) c.if-contains.true c.layout_at.ensures

pub returns : goal.returns
returns c =
    let parts = c.args.parts.now in let n = c.args.number in
    untold c.contains.result (is_used parts.uses (entity.Object n)) (layout_at (tables_of parts) c.args.object.type_id) (c.contains.ensures ∙ c.requires n) c.if-contains.false
