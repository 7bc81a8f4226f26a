use Rattle.std.proofs.Common.{◌≡◌, Some, ap, sym, subst, ◌∙◌}
use Rattle.dae_ir.specs.Streams.{actions_of}
use Rattle.dae_select_live.specs.Turns.{turns_told, IsTurnTold}
use Rattle.dae_select_live.proofs.turns.live_at_turn.Goals as goal

pub turn_by_row-requires : goal.turn_by_row-requires
turn_by_row-requires c =
    let told = turns_told c.args.turns.now in
    let found : Some c.in-Some.row.now ≡ told c.key_of-key.result = c.in-Some.ensures.value in
    subst (IsTurnTold (actions_of c.args.body.now) (actions_of c.args.step.now)) (ap told (sym c.key_of-key.ensures) ∙ sym found) c.requires
