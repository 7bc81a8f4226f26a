use Rattle.std.proofs.Common.{sym, subst}
use Rattle.dae_guard.specs.Kept.{IsProper}
use Rattle.dae_guard_walk.proofs.ProperLaws.{proper_replicate, proper_zero}
use Rattle.dae_guard_walk.proofs.guarding.opened_side.Goals as goal

pub returns-clause-proper : goal.returns-clause-proper
returns-clause-proper c = proper_replicate 28 c.single.result (subst IsProper (sym c.single.ensures) proper_zero)
