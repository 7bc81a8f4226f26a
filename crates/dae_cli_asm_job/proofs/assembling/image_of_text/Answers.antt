use Rattle.std.proofs.Common.{rules}
use Rattle.dae_cli_asm_job.specs.Assembling.{due_fault, due_memory_to_assemble, error_line}
use Rattle.dae_cli_asm_job.proofs.Said.{text_stop}
use Rattle.dae_cli_asm_job.proofs.assembling.image_of_text.Goals as goal

pub returns-in-Err-Memory-clause-err : goal.returns-in-Err-Memory-clause-err
returns-in-Err-Memory-clause-err c = due_memory_to_assemble

pub returns-in-Err-clause-err : goal.returns-in-Err-clause-err
returns-in-Err-clause-err c = text_stop (c.told.ensures (error_line c.in-Err.error) c.error_line.ensures) (due_fault c.in-Err.error (search rules) c.in-Err.ensures.err)
