use Rattle.dae_lower_programs.proofs.Loops.{turn_made}
use Rattle.dae_lower_programs.proofs.initialising.zero_turn.Goals as goal

pub returns : goal.returns
returns c =
    turn_made c.args.place c.args.size c.args.address c.args.end c.turn_bytes-count.result c.in_ok-leave.leave c.new-block.result.items c.push.new.self.items c.push_zeros.new.block.items
    c.new-block.ensures.items c.in_ok-push.ensures.items c.in_ok-push_zeros.ensures c.turn_bytes-count.ensures c.in_ok-leave.ensures
