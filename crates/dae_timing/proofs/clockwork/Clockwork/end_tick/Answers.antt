use Rattle.dae_timing.proofs.Kept.{sound_later}
use Rattle.dae_timing.proofs.clockwork.Clockwork.end_tick.Goals as goal

pub invariant_of-self : goal.invariant_of-self
invariant_of-self c = sound_later c.self.inside.machine _ _ c.self.inside.ticks c.self.inside.ld c.self.inside.al c.self.invariant
