use Rattle.dae_alias.proofs.Onto.{writes_item}
use Rattle.dae_alias.proofs.turning.write_load.Goals as goal

pub returns : goal.returns
returns c = writes_item c.args.out.now.items c.push.new.self.items c.args.load.place _ c.in_ok-push.ensures.items
