use Rattle.std.proofs.Common.{◌≡◌, ℕ, Bool, true, false, if◌then◌else◌, List, Option, Some, None, sym, ap, ◌∙◌}
use Rattle.dae_ir.specs.Streams.{actions_of}
use Rattle.dae_select_live.specs.Turns.{leaves_at_once}
use Rattle.dae_select_live.proofs.turns.row_for.Goals as goal

pub returns-in_ok-set : goal.returns-in_ok-set
returns-in_ok-set c =
    let is : leaves_at_once (actions_of c.args.body.now) ≡ true = sym c.leaves_at_once.ensures ∙ c.if-leaves_at_once.true in
    ap {B = Option (List ℕ)} Some c.in_ok-set.ensures ∙ sym (ap {B = Option (List ℕ)} (λ (b : Bool). if b then Some c.args.round.now else None) is)

pub returns-else-leaves_at_once : goal.returns-else-leaves_at_once
returns-else-leaves_at_once c =
    let is : leaves_at_once (actions_of c.args.body.now) ≡ false = sym c.leaves_at_once.ensures ∙ c.if-leaves_at_once.false in
    sym (ap {B = Option (List ℕ)} (λ (b : Bool). if b then Some c.args.round.now else None) is)
