use Rattle.std.proofs.Common.{[], ◌∷◌}
use Rattle.dae_cli_drive.specs.Puts.{Out, answer, stop_answer}
use Rattle.dae_cli_listing_job.proofs.listing.dis.Goals as goal

pub returns-in-Ok-clause-gives : goal.returns-in-Ok-clause-gives
returns-in-Ok-clause-gives g c = (
  answer 0 (Out c.in-Ok.listing.items ∷ []),
  c.in-Ok.ensures.ok,
  rw c.as_slice.ensures.value at c.put_listing.ensures.gives (g.N.Sink.seen c.args.note.now),
)

pub returns-in-Err-clause-gives : goal.returns-in-Err-clause-gives
returns-in-Err-clause-gives g c = (
  stop_answer c.in-Err.stop,
  c.in-Err.ensures.err,
  c.tell.ensures (g.O.Sink.seen c.args.out.now),
)
