use Rattle.std.proofs.Common.{sym}
use Rattle.dae_unit.proofs.Kept.{nothing_is_given}
use Rattle.dae_unit.proofs.givers.is_given.Goals as goal

pub returns-in-None : goal.returns-in-None
returns-in-None c = sym (nothing_is_given c.args.files.now c.args.file c.args.entity c.in-None.ensures c.args.rows.now)
