use Rattle.dae_lower_maker.proofs.Rows.{item_wrote}
use Rattle.dae_lower_maker.proofs.maker.Maker.put.Goals as goal

pub returns : goal.returns
returns c = rw (c.in_ok-push.ensures.items) (item_wrote c.args.self.now.statements.items c.args.self.now.next c.args.place c.args.item)
