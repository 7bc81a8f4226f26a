use Rattle.std.proofs.Common.{inl, inr, refl}
use Rattle.dae_cli_drive.proofs.Kept.{ends_so}
use Rattle.dae_cli_drive.proofs.keeping.keep_bytes.Goals as goal

pub returns-in-Ok-clause-gives : goal.returns-in-Ok-clause-gives
returns-in-Ok-clause-gives g c = inl (c.in-Ok.ensures.kept, rw c.requires at c.noted.ensures)

pub returns-in-Err-clause-gives : goal.returns-in-Err-clause-gives
returns-in-Err-clause-gives g c = inr (record { rose = c.in-Err.ensures.rose; last = c.in-Err.ensures.fault }, refl, refl)

pub returns-in-Ok-clause-ends : goal.returns-in-Ok-clause-ends
returns-in-Ok-clause-ends g c = ends_so c.noted.ensures
