use Rattle.std.proofs.Common.{ℕ, List, Some, ap, sym, ◌∙◌}
use Rattle.std.proofs.lemmas.Result.{IfOk-weaker}
use Rattle.dae_ir.specs.Streams.{actions_of}
use Rattle.dae_select_walks.specs.Live.{with_all}
use Rattle.dae_select_live.specs.Members.{member}
use Rattle.dae_select_live.specs.Turns.{IsTurn}
use Rattle.dae_select_live.proofs.turns.turn_by_row.Goals as goal

pub returns-in_ok-copy-in-Some : goal.returns-in_ok-copy-in-Some
returns-in_ok-copy-in-Some c =
    let n = member c.args.next.now in
    let told : IsTurn (actions_of c.args.body.now) (actions_of c.args.step.now) (Some c.in-Some.set) = rw c.in-Some.is at c.requires in
    IfOk-weaker c.unite.result _ _ (λ set h. h ∙ ap (λ (l : List ℕ). with_all (member l) n) c.in_ok-copy-in-Some.ensures ∙ sym (told n)) c.unite.ensures
