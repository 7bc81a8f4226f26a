use Rattle.std.proofs.Common.{◌≡◌, true, false, true≢false, is_some, ap, sym, ◌∙◌}
use Rattle.dae_names.proofs.index.show_hidden.Goals as goal

pub returns-in-Ok : goal.returns-in-Ok
returns-in-Ok c = rw c.in-Some.is c.in-Ok.ensures.updates

pub returns-in-Err : goal.returns-in-Err
returns-in-Err c =
    let e : true ≡ false = sym c.requires ∙ ap is_some c.in-Err.ensures.absent in
    absurd (true≢false e)

pub returns-in-None : goal.returns-in-None
returns-in-None c = rw c.in-None.is c.swap_remove.ensures.updates
