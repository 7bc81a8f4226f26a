use Rattle.std.proofs.Common.{◌∙◌, sym}
use Rattle.dae_unit_join.proofs.Counted.{numbers_on}
use Rattle.dae_unit_join.proofs.meanings.function_numbers.Goals as goal

pub loop-number-preserved : goal.loop-number-preserved
loop-number-preserved c =
    rw (c.in_ok-push.ensures.items, c.function_number.ensures) (sym (numbers_on c.args.files.now c.args.bodies.rows.now c.args.file c.loop-number.numbers.items c.args.routines.now c.loop-number.number c.loop-number.number c.loop-number-test.true) ∙ c.loop-number.invariant)
