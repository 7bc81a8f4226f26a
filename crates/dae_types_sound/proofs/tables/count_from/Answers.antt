use Rattle.std.proofs.Common.{◌∙◌, length, sym}
use Rattle.dae_types_plans.specs.Steps.{parameters_from}
use Rattle.dae_types_typed.specs.Sound.{tables_of}
use Rattle.dae_types_sound.proofs.Steps.{count_ends, count_more}
use Rattle.dae_types_sound.proofs.tables.count_from.Goals as goal

pub loop-count-preserved : goal.loop-count-preserved
loop-count-preserved c =
    count_more (tables_of c.args.parts.now) c.loop-count.rest c.in-Some.before (length c.args.parts.now.shapes) c.loop-count.count (length (parameters_from (length c.args.parts.now.shapes) (tables_of c.args.parts.now) c.args.list))
    (rw (c.len-count-end.ensures) at (c.loop-count-test.true)) (sym c.shorter.ensures ∙ c.in-Some.is) c.loop-count.invariant

pub returns-in-None : goal.returns-in-None
returns-in-None c =
    count_ends (tables_of c.args.parts.now) c.loop-count.rest (length c.args.parts.now.shapes) c.loop-count.count (length (parameters_from (length c.args.parts.now.shapes) (tables_of c.args.parts.now) c.args.list))
    (rw (c.len-count-end.ensures) at (c.loop-count-test.true)) (sym c.shorter.ensures ∙ c.in-None.is) c.loop-count.invariant
