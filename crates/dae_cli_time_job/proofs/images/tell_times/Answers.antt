use Rattle.std.proofs.Common.{refl}
use Rattle.dae_cli_drive.specs.Puts.{gives_part, gives_whole}
use Rattle.dae_cli_time_job.proofs.images.tell_times.Goals as goal

pub returns-in-Ok-clause-gives : goal.returns-in-Ok-clause-gives
returns-in-Ok-clause-gives g c = λ out. gives_whole c.status_of.ensures.value (c.in-Ok.ensures.made out)

pub returns-in-Err-clause-gives : goal.returns-in-Err-clause-gives
returns-in-Err-clause-gives g c = λ out. gives_part refl (c.in-Err.ensures.cut out)
