use Rattle.dae_lower_programs.proofs.Loops.{zero_pushed}
use Rattle.dae_lower_programs.proofs.initialising.push_zero.Goals as goal

pub returns : goal.returns
returns c rest =
    zero_pushed c.args.place c.args.address c.args.block.now.items c.push.new.self.items c.push-2.new.self.items c.in_ok-push.ensures.items c.in_ok-push-2.ensures.items rest
