use Rattle.std.proofs.Common.{length, refl}
use Rattle.std.proofs.lemmas.Option.{slice_get_past, slice_get_read}
use Rattle.dae_ir.specs.declared.form.Operand.TheVariants.{Number}
use Rattle.dae_lower_programs.proofs.Arguments.{argument_none, argument_some}
use Rattle.dae_lower_programs.proofs.printing.argument.Goals as goal

pub returns-in-Some : goal.returns-in-Some
returns-in-Some c =
    let xs = c.args.xs.now in
    let look = c.in-Some.ensures.lookup in
    argument_some (Number 0) xs c.args.number c.in-Some.x.now (slice_get_read xs (length xs) c.args.number c.in-Some.x.now refl look.3.0 look.1)

pub returns-in-None : goal.returns-in-None
returns-in-None c = argument_none (Number 0) c.args.xs.now c.args.number (slice_get_past c.args.xs.now c.args.number c.in-None.ensures.lookup.3)
