use Rattle.std.proofs.Common.{refl}
use Rattle.dae_ir.specs.declared.form.Check.TheVariants.{Frame}
use Rattle.dae_ir.specs.declared.form.Item.TheVariants.{Expect}
use Rattle.dae_lower.specs.Lowering.{emit, one}
use Rattle.dae_lower_expressions.specs.Lowered.{state_of}
use Rattle.dae_lower_programs.proofs.Laws.{leaf_whole, nothing_whole}
use Rattle.dae_lower_programs.proofs.functions.check_frame.Goals as goal

pub returns-else-flag : goal.returns-else-flag
returns-else-flag c = rw (c.if-flag.false) (nothing_whole (state_of c.args.lowerer.now) tt)

pub returns-in_ok-item : goal.returns-in_ok-item
returns-in_ok-item c =
    let old = c.args.lowerer.now in
    rw (c.if-flag.true) (leaf_whole (emit (one c.args.place (Expect Frame))) (state_of old) (state_of (record { alloc = old.alloc; maker = c.item.new.self; later = old.later })) tt refl c.in_ok-item.ensures)
