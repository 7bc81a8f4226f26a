use Rattle.std.proofs.Common.{refl}
use Rattle.dae_ir.specs.declared.form.Item.TheVariants.{Print}
use Rattle.dae_ir.specs.declared.form.Operand.TheVariants.{Number}
use Rattle.dae_lower.specs.Lowering.{emit, one, text_loop}
use Rattle.dae_lower_expressions.specs.Lowered.{state_of}
use Rattle.dae_lower_programs.proofs.Rows.{last_whole, leaf_whole}
use Rattle.dae_meaning.specs.declared.Spelling.TheVariants.{Byte}
use Rattle.dae_program.specs.Printing.{argument}
use Rattle.dae_lower_programs.proofs.printing.print_piece.Goals as goal

pub returns-in_ok-item-in-Byte : goal.returns-in_ok-item-in-Byte
returns-in_ok-item-in-Byte c =
    let last = state_of (record { alloc = c.args.lowerer.now.alloc; maker = c.item.new.self; later = c.args.lowerer.now.later }) in
    let made = emit (one c.args.place (Print Byte (Number c.in-Byte.byte))) in
    rw (c.in-Byte.is) (last_whole made (state_of c.args.lowerer.now) last tt (leaf_whole made (state_of c.args.lowerer.now) last tt refl (rw (c.from.ensures) at (c.in_ok-item-in-Byte.ensures))))

pub returns-in_ok-item-in-Word : goal.returns-in_ok-item-in-Word
returns-in_ok-item-in-Word c =
    let last = state_of (record { alloc = c.args.lowerer.now.alloc; maker = c.item-in-Word.new.self; later = c.args.lowerer.now.later }) in
    let made = emit (one c.args.place (Print c.in-Word.spelling (argument (Number 0) c.args.xs.now c.in-Word.number))) in
    rw (c.in-Word.is) (last_whole made (state_of c.args.lowerer.now) last tt (leaf_whole made (state_of c.args.lowerer.now) last tt refl (rw (c.argument-x.ensures) at (c.in_ok-item-in-Word.ensures))))

pub returns-in_ok-print_text-in-String : goal.returns-in_ok-print_text-in-String
returns-in_ok-print_text-in-String c =
    rw (c.in-String.is) (last_whole (text_loop c.args.place (argument (Number 0) c.args.xs.now c.in-String.number)) (state_of c.args.lowerer.now) (state_of c.print_text.new.lowerer) tt (rw (c.argument-x-in-String.ensures) at (c.in_ok-print_text-in-String.ensures)))
