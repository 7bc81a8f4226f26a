use Rattle.std.proofs.Common.{refl}
use Rattle.dae_ir.specs.Code.{Do}
use Rattle.dae_ir.specs.declared.form.Item.TheVariants.{Assign, Store}
use Rattle.dae_ir.specs.declared.form.Operand.{Operand}
use Rattle.dae_ir.specs.declared.form.Operand.TheVariants.{Variable}
use Rattle.dae_ir.specs.declared.form.Value.TheVariants.{FrameAddress}
use Rattle.dae_lower.specs.Lowering.{emit, nowhere, one, skip, ways, ◌≫◌}
use Rattle.dae_lower_expressions.specs.Lowered.{links_in, state_of}
use Rattle.dae_lower_programs.proofs.Rows.{last_whole, leaf_whole, then_whole, two_items}
use Rattle.dae_lower_maker.specs.Making.{so_far}
use Rattle.dae_program.specs.Views.{view}
use Rattle.dae_lower_programs.proofs.initialising.put.Goals as goal

pub returns : goal.returns
returns c =
    let item = c.args.item.now in
    let last = state_of (record { alloc = c.whole_value.new.self.alloc; maker = c.item-2.new.self; later = c.whole_value.new.self.later }) in
    let stored = λ (y : Operand). emit (Do c.args.place (Assign c.args.v (FrameAddress item.offset)) (one c.args.place (Store item.width (Variable c.args.v) y))) in
    then_whole ((ways (links_in c.args.none c.args.links.now) (view item.value)).value nowhere) (λ y n. stored y n ≫ λ x. skip) (state_of c.args.lowerer.now) (state_of c.whole_value.new.self) last c.in_ok-y.y tt c.in_ok-y.ensures
    (last_whole (stored c.in_ok-y.y) (state_of c.whole_value.new.self) last tt (leaf_whole (stored c.in_ok-y.y) (state_of c.whole_value.new.self) last tt refl
    (two_items c.args.place (Assign c.args.v (FrameAddress item.offset)) (Store item.width (Variable c.args.v) c.in_ok-y.y) (so_far c.whole_value.new.self.maker) (so_far c.item.new.self) (so_far c.item-2.new.self) c.in_ok-item.ensures c.in_ok-item-2.ensures)))
