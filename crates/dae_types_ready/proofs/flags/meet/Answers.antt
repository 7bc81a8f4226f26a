use Rattle.std.proofs.Common.{sym, length}
use Rattle.std.proofs.lemmas.Bool.{ltb-false}
use Rattle.dae_types_ready.proofs.Steps.{meet_ends}
use Rattle.dae_types_ready.proofs.flags.meet.Goals as goal

pub returns-in-None : goal.returns-in-None
returns-in-None c =
    meet_ends c.args.one.now c.args.other.now c.loop-index.both.items c.loop-index.index (ltb-false c.loop-index.index (length c.args.other.now) (sym c.in-None.ensures.lookup.0)) c.loop-index.invariant
