use Rattle.std.proofs.Common.{◌≡◌, map, string_bytes, sym, ◌∙◌, arith}
use Rattle.std.proofs.lemmas.Result.{IfErr-weaker, err_from_is_err_and}
use Rattle.dae_cli_source_jobs.specs.Sources.{due_fetched}
use Rattle.dae_cli_source_jobs.proofs.OnWay.{as_many, all_short}
use Rattle.dae_cli_source_jobs.proofs.Stopped.{as_many_texts, not_fetched_due, short_texts}
use Rattle.dae_cli_source_jobs.proofs.sources.compilation_of_files.Goals as goal

pub returns-in_err-texts-clause-err : goal.returns-in_err-texts-clause-err
returns-in_err-texts-clause-err g c = let p = err_from_is_err_and c.from_residual.result c.from_residual.ensures.1 in rw (p.1, p.2) (not_fetched_due c.in_err-texts.ensures.err)

pub compilation_of_texts-requires-clause-each : goal.compilation_of_texts-requires-clause-each
compilation_of_texts-requires-clause-each g c = rw c.as_slice.ensures.value (as_many_texts string_bytes c.args.names.now _ (as_many _ _ _ _ c.in_ok-texts.ensures.ok))

pub compilation_of_texts-requires-clause-short : goal.compilation_of_texts-requires-clause-short
compilation_of_texts-requires-clause-short g c = rw c.as_slice.ensures.value (short_texts _ (all_short _ _ _ _ (omega arith) c.in_ok-texts.ensures.ok))

pub returns-clause-err : goal.returns-clause-err
returns-clause-err g c = IfErr-weaker c.compilation_of_texts.result _ _ (λ stop h. due_fetched _ c.in_ok-texts.ensures.ok (rw c.as_slice.ensures.value at h)) c.compilation_of_texts.ensures.err
