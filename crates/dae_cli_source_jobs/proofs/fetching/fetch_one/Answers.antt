use Rattle.std.proofs.Common.{rules, arith}
use Rattle.std.proofs.lemmas.Result.{err_from_is_err_and}
use Rattle.dae_cli_source_jobs.specs.Refusals.{too_long_line}
use Rattle.dae_cli_drive.proofs.LawsOfFiles.{whole_text}
use Rattle.dae_cli_source_jobs.proofs.OnWay.{long_text, not_fetched, not_read}
use Rattle.dae_cli_source_jobs.proofs.fetching.fetch_one.Goals as goal

pub returns-in_err-text-clause-err : goal.returns-in_err-text-clause-err
returns-in_err-text-clause-err g c = let p = err_from_is_err_and c.from_residual.result c.from_residual.ensures.1 in rw (p.1, p.2) (not_read c.in_err-text.ensures.err)

pub returns-then-len-left-clause-err : goal.returns-then-len-left-clause-err
returns-then-len-left-clause-err g c =
    not_fetched (c.told.ensures (too_long_line c.args.name.now) c.too_long_line.ensures) (long_text _ _ _ _ c.in_ok-text.ensures.bytes (search rules))

pub returns-clause-text : goal.returns-clause-text
returns-clause-text g c = whole_text _ _ _ c.in_ok-text.ensures.bytes (omega (arith, c.if-len-left.false))
