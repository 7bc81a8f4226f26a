use Rattle.dae_lower.specs.Lowering.{unread, ◌≫◌}
use Rattle.dae_lower_expressions.specs.Lowered.{state_of}
use Rattle.dae_lower_programs.proofs.Rows.{then_whole}
use Rattle.dae_lower_programs.proofs.statements.preheader.Goals as goal

pub returns : goal.returns
returns c =
    let p = c.args.place in
    let b = state_of c.reserve_unread.new.lowerer in
    let d = state_of c.reserve_unread-2.new.lowerer in
    let e = state_of c.reserve_unread-3.new.lowerer in
    then_whole (unread p) (λ x n. unread p n ≫ λ x. unread p) (state_of c.args.lowerer.now) b e tt tt c.in_ok-reserve_unread.ensures
    (then_whole (unread p) (λ x. unread p) b d e tt tt c.in_ok-reserve_unread-2.ensures c.in_ok-reserve_unread-3.ensures)
