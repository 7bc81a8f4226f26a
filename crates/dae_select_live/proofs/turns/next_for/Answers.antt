use Rattle.std.proofs.Common.{◌≡◌, Bool, true, false, if◌then◌else◌, sym, ap, ◌∙◌}
use Rattle.dae_ir.specs.Streams.{actions_of}
use Rattle.dae_select_walks.specs.Live.{none}
use Rattle.dae_select_live.specs.Members.{member}
use Rattle.dae_select_live.specs.Turns.{leaves_at_once}
use Rattle.dae_select_live.proofs.turns.next_for.Goals as goal

pub returns-then-leaves_at_once : goal.returns-then-leaves_at_once
returns-then-leaves_at_once c =
    let is : leaves_at_once (actions_of c.args.body.now) ≡ true = sym c.leaves_at_once.ensures ∙ c.if-leaves_at_once.true in
    c.new.ensures ∙ sym (ap (λ (b : Bool). if b then none else member c.args.next.now) is)

pub returns-in_ok-set : goal.returns-in_ok-set
returns-in_ok-set c =
    let is : leaves_at_once (actions_of c.args.body.now) ≡ false = sym c.leaves_at_once.ensures ∙ c.if-leaves_at_once.false in
    ap member c.in_ok-set.ensures ∙ sym (ap (λ (b : Bool). if b then none else member c.args.next.now) is)
