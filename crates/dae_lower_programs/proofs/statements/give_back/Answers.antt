use Rattle.std.proofs.Common.{refl}
use Rattle.dae_ir.specs.declared.form.Item.TheVariants.{Return}
use Rattle.dae_ir.specs.declared.form.Operand.{Operand}
use Rattle.dae_ir.specs.declared.form.Operand.TheVariants.{Number}
use Rattle.dae_lower.specs.Lowering.{emit, nowhere, one, skip, ways, ◌≫◌}
use Rattle.dae_lower_expressions.specs.Lowered.{links_in, state_of}
use Rattle.dae_lower_programs.proofs.Rows.{last_whole, leaf_whole, then_whole}
use Rattle.dae_program.specs.Views.{view}
use Rattle.dae_lower_programs.proofs.statements.give_back.Goals as goal

pub returns-in_ok-item-in-Some : goal.returns-in_ok-item-in-Some
returns-in_ok-item-in-Some c =
    let b = state_of c.whole_value.new.self in
    let last = state_of (record { alloc = c.whole_value.new.self.alloc; maker = c.item.new.self; later = c.whole_value.new.self.later }) in
    let given = λ (x : Operand). emit (one c.args.place (Return x)) in
    rw (c.in-Some.is) (then_whole ((ways (links_in c.args.none c.args.links.now) (view c.in-Some.e.value)).value nowhere) (λ x n. given x n ≫ λ u. skip) (state_of c.args.lowerer.now) b last c.in_ok-x-in-Some.x tt (rw (c.deref.ensures) at (c.in_ok-x-in-Some.ensures))
    (last_whole (given c.in_ok-x-in-Some.x) b last tt (leaf_whole (given c.in_ok-x-in-Some.x) b last tt refl c.in_ok-item-in-Some.ensures)))

pub returns-in_ok-item-in-None : goal.returns-in_ok-item-in-None
returns-in_ok-item-in-None c =
    let last = state_of (record { alloc = c.args.lowerer.now.alloc; maker = c.item-in-None.new.self; later = c.args.lowerer.now.later }) in
    let made = emit (one c.args.place (Return (Number 0))) in
    rw (c.in-None.is) (last_whole made (state_of c.args.lowerer.now) last tt (leaf_whole made (state_of c.args.lowerer.now) last tt refl c.in_ok-item-in-None.ensures))
