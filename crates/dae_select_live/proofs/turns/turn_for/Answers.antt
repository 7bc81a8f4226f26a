use Rattle.std.proofs.Common.{◌≡◌, Bool, true, false, if◌then◌else◌, sym, ap, ◌∙◌}
use Rattle.std.proofs.lemmas.Result.{IfOk-weaker}
use Rattle.dae_ir.specs.Streams.{actions_of}
use Rattle.dae_select_walks.specs.Live.{with_all}
use Rattle.dae_select_live.specs.Members.{member}
use Rattle.dae_select_live.specs.Turns.{leaves_at_once}
use Rattle.dae_select_live.proofs.turns.turn_for.Goals as goal

pub returns-then-leaves_at_once : goal.returns-then-leaves_at_once
returns-then-leaves_at_once c =
    let is : leaves_at_once (actions_of c.args.body.now) ≡ true = sym c.leaves_at_once.ensures ∙ c.if-leaves_at_once.true in
    let t = member c.args.round in
    IfOk-weaker c.unite.result _ _ (λ set h. h ∙ sym (ap (λ (b : Bool). if b then with_all t (member c.args.next.now) else t) is)) c.unite.ensures

pub returns-else-leaves_at_once : goal.returns-else-leaves_at_once
returns-else-leaves_at_once c =
    let is : leaves_at_once (actions_of c.args.body.now) ≡ false = sym c.leaves_at_once.ensures ∙ c.if-leaves_at_once.false in
    let t = member c.args.round in
    sym (ap (λ (b : Bool). if b then with_all t (member c.args.next.now) else t) is)
