use Rattle.std.proofs.Common.{refl}
use Rattle.dae_io.proofs.Held.{last_text-here, last_text-other}
use Rattle.dae_io.proofs.memory_shelf.add.Goals as goal

pub returns-clause-held : goal.returns-clause-held
returns-clause-held c = rw c.in_ok-push.ensures.items (last_text-here c.args.texts.now.items c.args.held _ refl)

pub returns-clause-others : goal.returns-clause-others
returns-clause-others c = λ name other. rw c.in_ok-push.ensures.items (last_text-other c.args.texts.now.items c.args.held name other)
