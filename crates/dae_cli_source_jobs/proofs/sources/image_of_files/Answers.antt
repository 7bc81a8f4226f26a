use Rattle.dae_cli_source_jobs.proofs.sources.image_of_files.Goals as goal

pub returns-in-Ok-clause-ok : goal.returns-in-Ok-clause-ok
returns-in-Ok-clause-ok g c =
    let made = c.in-Ok.ensures.ok in
    let of = made.made in
    record { texts = made.texts; fetched = made.fetched; made = of.image }
