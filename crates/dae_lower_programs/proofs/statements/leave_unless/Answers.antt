use Rattle.std.proofs.Common.{refl}
use Rattle.dae_ir.specs.declared.form.Item.TheVariants.{Break}
use Rattle.dae_lower.specs.Lowering.{emit, nowhere, one, skip, ways}
use Rattle.dae_lower_expressions.specs.Lowered.{links_in, state_of}
use Rattle.dae_lower_programs.proofs.Rows.{branches_whole, code_block, empty_block}
use Rattle.dae_lower_maker.specs.Making.{condition_of}
use Rattle.dae_program.specs.Views.{view}
use Rattle.dae_lower_programs.proofs.statements.leave_unless.Goals as goal

pub returns : goal.returns
returns c =
    let b = state_of c.whole_condition.new.self in
    let z = state_of (record { alloc = c.whole_condition.new.self.alloc; maker = c.branch-lowerer.new.self; later = c.whole_condition.new.self.later }) in
    branches_whole c.args.place ((ways (links_in c.args.none c.args.links.now) (view c.args.e.now)).condition nowhere) skip (emit (one c.args.place Break)) (state_of c.args.lowerer.now) b b b z (condition_of c.in_ok-condition.condition) c.new-stay.result.items c.in_ok-leave.leave.items
    c.in_ok-condition.ensures (empty_block b c.new-stay.result.items c.new-stay.ensures.items) (code_block (one c.args.place Break) b c.in_ok-leave.leave.items c.in_ok-leave.ensures) refl c.in_ok-branch.ensures
