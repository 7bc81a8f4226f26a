use Rattle.std.proofs.Common.{length, ◌∙◌}
use Rattle.dae_types_kinds.specs.declared.tables.Entity.TheVariants as entity
use Rattle.dae_types_plans.specs.Steps.{parameter_types}
use Rattle.dae_types_typed.specs.Sound.{is_used, tables_of}
use Rattle.dae_types_sound.proofs.UsedNumbers.{told, untold}
use Rattle.dae_types_sound.proofs.tables.used_count.Goals as goal

pub returns-then-contains : goal.returns-then-contains
returns-then-contains c =
    let parts = c.args.parts.now in let n = c.args.number in
    told c.contains.result (is_used parts.uses (entity.Function n)) c.count_parameters.result (length (parameter_types (tables_of parts) n)) (c.contains.ensures ∙ c.requires n) c.if-contains.true c.count_parameters.ensures

pub returns : goal.returns
returns c =
    let parts = c.args.parts.now in let n = c.args.number in
    untold c.contains.result (is_used parts.uses (entity.Function n)) (length (parameter_types (tables_of parts) n)) (c.contains.ensures ∙ c.requires n) c.if-contains.false
