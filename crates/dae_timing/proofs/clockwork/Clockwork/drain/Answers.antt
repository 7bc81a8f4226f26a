use Rattle.dae_timing.proofs.Kept.{sound_drained}
use Rattle.dae_timing.proofs.clockwork.Clockwork.drain.Goals as goal

pub invariant_of-self : goal.invariant_of-self
invariant_of-self c =
    sound_drained c.self.inside.machine c.step.new.self _ _ c.self.inside.ticks c.self.inside.ld c.self.inside.al c.step.result c.self.invariant c.step.ensures.setup c.step.ensures.state
