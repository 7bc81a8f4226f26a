use Rattle.dae_cli_words.proofs.Spelling.{no_colon}
use Rattle.dae_cli_words.proofs.numbers.seed_of.Goals as goal

pub returns-in_err-kind : goal.returns-in_err-kind
returns-in_err-kind c = rw c.from_residual.ensures (no_colon c.args.value.now c.in_err-kind.ensures.cases)
