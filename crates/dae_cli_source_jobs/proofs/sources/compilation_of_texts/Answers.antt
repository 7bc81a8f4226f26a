use Rattle.std.proofs.Common.{rules}
use Rattle.dae_cli_source_jobs.specs.Refusals.{refusal_line}
use Rattle.std.specs.Prelude.{map, string_bytes}
use Rattle.dae_cli_source_jobs.specs.Sources.{due_refused, due_memory_to_compile}
use Rattle.dae_cli_source_jobs.proofs.Stopped.{are_names, texts_stop}
use Rattle.dae_cli_source_jobs.proofs.sources.compilation_of_texts.Goals as goal

pub returns-in-Err-Memory-clause-err : goal.returns-in-Err-Memory-clause-err
returns-in-Err-Memory-clause-err c = due_memory_to_compile

pub returns-in-Err-clause-err : goal.returns-in-Err-clause-err
returns-in-Err-clause-err c = texts_stop (c.told.ensures (refusal_line (map string_bytes c.args.names.now) c.in-Err.error) c.refusal_line.ensures) (due_refused c.in-Err.error (search rules) c.in-Err.ensures.refused)

pub returns-in_default-clause-err : goal.returns-in_default-clause-err
returns-in_default-clause-err c = due_memory_to_compile

pub compile-requires-clause-named : goal.compile-requires-clause-named
compile-requires-clause-named c = are_names _ (rw (← c.in-Ok.ensures.listed) at c.requires.files.named) c.in-Ok.ensures.utf8
