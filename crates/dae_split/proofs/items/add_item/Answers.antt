use Rattle.dae_split.proofs.Lists.{on_ok_more}
use Rattle.dae_split.proofs.items.add_item.Goals as goal

pub returns-in-Assign-clause-made : goal.returns-in-Assign-clause-made
returns-in-Assign-clause-made c = on_ok_more c.add_part.result c.add_part.ensures.made (λ h outside r. rw (c.in-Assign.is) (h outside c.args.place r))

pub returns-in-Load-clause-made : goal.returns-in-Load-clause-made
returns-in-Load-clause-made c = on_ok_more c.add_part-in-Load.result c.add_part-in-Load.ensures.made (λ h outside r. rw (c.in-Load.is) (h outside c.args.place r))
