use Rattle.dae_parse.proofs.reading.refusal_at.Goals as goal

pub returns : goal.returns
returns c = (c.requires.0, (c.args.at, c.requires.1, c.place_at.ensures))
