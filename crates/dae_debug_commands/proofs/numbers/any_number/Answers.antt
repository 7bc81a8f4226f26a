use Rattle.std.proofs.Common.{rules}
use Rattle.dae_cli_options.proofs.Laws.{no_number, one_number, other_number}
use Rattle.dae_debug_commands.proofs.numbers.any_number.Goals as goal

pub returns-in_err-number : goal.returns-in_err-number
returns-in_err-number c = rw c.from_residual.ensures (no_number c.args.text.now c.parse.result c.parse.ensures.value.0 (search rules))

pub returns-then-eq : goal.returns-then-eq
returns-then-eq c = one_number c.args.text.now c.parse.result c.in_ok-number.number c.parse.ensures.value.0 (search rules) (search rules) (search rules)

pub returns-else-eq : goal.returns-else-eq
returns-else-eq c = other_number c.args.text.now c.parse.result c.in_ok-number.number c.parse.ensures.value.0 (search rules) (search rules)
