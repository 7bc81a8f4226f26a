use Rattle.std.proofs.Common.{List, ℕ, ap, ◌∙◌}
use Rattle.dae_select_walks.specs.Live.{with_all, only}
use Rattle.dae_select_live.specs.Members.{member}
use Rattle.dae_select_live.proofs.Rising.{member_again, member_inserted, rising_insert}
use Rattle.dae_select_live.proofs.set.LiveSet.insert.Goals as goal

pub invariant_of-self-in-Err : goal.invariant_of-self-in-Err
invariant_of-self-in-Err c = rw c.in_ok-insert-in-Err.ensures.items (rising_insert _ _ _ (rw c.self.view_is c.in-Err.ensures.absent) c.self.invariant)

pub returns-in-Ok : goal.returns-in-Ok
returns-in-Ok c = member_again c.args.self.now c.args.variable c.in-Ok.field-0 c.in-Ok.ensures.found

pub returns-in_ok-insert-in-Err : goal.returns-in_ok-insert-in-Err
returns-in_ok-insert-in-Err c =
    ap member c.in_ok-insert-in-Err.ensures.items ∙ member_inserted c.self.inside.variables.items c.in-Err.at c.args.variable
    ∙ ap (λ (vs : List ℕ). with_all (only c.args.variable) (member vs)) c.self.view_is
