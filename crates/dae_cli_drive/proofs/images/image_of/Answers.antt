use Rattle.std.proofs.Common.{rules, take_all}
use Rattle.dae_cli_drive.specs.Notes.{image_line}
use Rattle.dae_cli_drive.specs.ImageFiles.{due_memory_to_decode}
use Rattle.dae_cli_drive.proofs.NoImage.{bytes_stop, refused_bytes}
use Rattle.dae_cli_drive.proofs.images.image_of.Goals as goal

pub returns-in-Ok-clause-ok : goal.returns-in-Ok-clause-ok
returns-in-Ok-clause-ok c = record { spells = search rules; read = rw (take_all 536870912 c.args.bytes.now c.requires) c.in-Ok.ensures.exact }

pub returns-in-Err-Memory-clause-err : goal.returns-in-Err-Memory-clause-err
returns-in-Err-Memory-clause-err c = due_memory_to_decode

pub returns-in-Err-clause-err : goal.returns-in-Err-clause-err
returns-in-Err-clause-err c =
    bytes_stop c.in-Err.error (refused_bytes c.args.bytes.now (take_all 536870912 c.args.bytes.now c.requires) c.in-Err.error (search rules) c.in-Err.ensures.exact c.in-Err.ensures.only)
    (c.told.ensures (image_line c.in-Err.error) c.image_line.ensures)
