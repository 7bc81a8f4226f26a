use Rattle.std.proofs.Common.{List, ℕ, ap, ◌∙◌}
use Rattle.dae_select_live.specs.Members.{member, without, IsAt}
use Rattle.dae_select_live.proofs.Rising.{member_removed, member_kept, rising_remove}
use Rattle.dae_select_live.proofs.set.LiveSet.remove.Goals as goal

pub invariant_of-self : goal.invariant_of-self
invariant_of-self c =
    let at : IsAt c.self.inside.variables.items c.args.variable c.in-Ok.at = rw c.self.view_is c.in-Ok.ensures.found in
    rw c.remove.ensures.items (rising_remove c.self.inside.variables.items c.in-Ok.at at.within c.self.invariant)

pub returns-in-Ok : goal.returns-in-Ok
returns-in-Ok c =
    let at : IsAt c.self.inside.variables.items c.args.variable c.in-Ok.at = rw c.self.view_is c.in-Ok.ensures.found in
    ap member c.remove.ensures.items ∙ member_removed c.self.inside.variables.items c.args.variable c.in-Ok.at at c.self.invariant
    ∙ ap (λ (vs : List ℕ). without c.args.variable (member vs)) c.self.view_is

pub returns-in-Err : goal.returns-in-Err
returns-in-Err c = member_kept c.args.self.now c.args.variable c.in-Err.field-0 c.in-Err.ensures.absent
