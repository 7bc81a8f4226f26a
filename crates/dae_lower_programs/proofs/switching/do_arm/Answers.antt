use Rattle.std.proofs.Common.{refl, subst, List}
use Rattle.dae_ir.specs.Code.{Done, If}
use Rattle.dae_ir.specs.Form.{form_of}
use Rattle.dae_ir.specs.declared.form.Operand.TheVariants.{Number, Variable}
use Rattle.dae_ir.specs.declared.form.Statement.{Statement}
use Rattle.dae_lower.specs.Lowering.{emit, test_of}
use Rattle.dae_lower_expressions.specs.Lowered.{state_of}
use Rattle.dae_lower_programs.proofs.Rows.{leaf_whole}
use Rattle.dae_lower_programs.specs.Switching.{arm_done}
use Rattle.dae_lower_maker.specs.Making.{Writes, so_far}
use Rattle.dae_meaning.specs.declared.Comparison.TheVariants.{AtLeastUnsigned}
use Rattle.dae_lower_programs.proofs.switching.do_arm.Goals as goal

pub returns : goal.returns
returns c =
    let old = c.args.lowerer.now in
    let code = form_of c.args.body.items in
    let test = test_of AtLeastUnsigned (Number c.args.number) (Variable c.args.v) in
    leaf_whole (arm_done c.args.place c.args.v c.args.number code) (state_of old) (state_of (record { alloc = old.alloc; maker = c.branch-lowerer.new.self; later = old.later })) tt refl
    (subst (λ (xs : List Statement). Writes (emit (If c.args.place test code (form_of xs) Done) old.maker.next) (so_far old.maker) (so_far c.branch-lowerer.new.self) tt) c.new-nothing.ensures.items c.in_ok-branch.ensures)
