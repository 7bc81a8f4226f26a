use Rattle.dae_parse_grammar.proofs.Runs.{step_falls, bounded}
use Rattle.dae_parse_grammar.proofs.runs_are_short.Goals as goal

pub returns-clause-falls : goal.returns-clause-falls
returns-clause-falls c = λ s t e. step_falls s t e

pub returns-clause-stops : goal.returns-clause-stops
returns-clause-stops c = λ tokens turns h. bounded tokens turns h
