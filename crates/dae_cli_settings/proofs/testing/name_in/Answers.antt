use Rattle.dae_cli_settings.proofs.Tested.{named_by, no_equals, stripped}
use Rattle.dae_cli_settings.proofs.testing.name_in.Goals as goal

pub returns-in_err-name : goal.returns-in_err-name
returns-in_err-name c =
    let front = stripped c.args.word.now c.in_ok-strip_prefix.field-0.now c.in_ok-strip_prefix.ensures.cases in
    rw c.from_residual-in_err-name.ensures (no_equals c.args.word.now c.in_ok-strip_prefix.field-0.now front c.in_err-name.ensures.cases)

pub returns : goal.returns
returns c =
    let front = stripped c.args.word.now c.in_ok-strip_prefix.field-0.now c.in_ok-strip_prefix.ensures.cases in
    named_by c.args.word.now c.in_ok-strip_prefix.field-0.now (c.in_ok-name.name, c.in_ok-name._value) front c.in_ok-name.ensures.cases
