use Rattle.std.proofs.Common.{rules, arith}
use Rattle.std.proofs.lemmas.Result.{err_from_is_err_and}
use Rattle.dae_cli_drive.proofs.Limits.{text_is, text_not_got, text_too_long}
use Rattle.dae_cli_drive.proofs.texts.text_of_file.Goals as goal

pub returns-in_err-text-clause-err : goal.returns-in_err-text-clause-err
returns-in_err-text-clause-err g c =
    let p = err_from_is_err_and c.from_residual.result c.from_residual.ensures.1 in
    rw (p.1, p.2) (text_not_got c.in_err-text.ensures.err)

pub returns-then-len-most-clause-err : goal.returns-then-len-most-clause-err
returns-then-len-most-clause-err g c = text_too_long _ c.in_ok-text.ensures.bytes (search rules) (c.told.ensures c.args.long.now (search rules))

pub returns-clause-ok : goal.returns-clause-ok
returns-clause-ok g c = text_is c.args.most _ c.in_ok-text.ensures.bytes (omega (arith, c.if-len-most.false))
