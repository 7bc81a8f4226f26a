use Rattle.std.proofs.Common.{inl, inr, ◌∙◌}
use Rattle.dae_cli_drive.specs.Puts.{stop_answer}
use Rattle.dae_cli_drive.proofs.LawsOfFiles.{held_before, keeping_before, once_before}
use Rattle.dae_cli_asm_job.proofs.Said.{file_with, file_without}
use Rattle.dae_cli_asm_job.proofs.assembling.asm.Goals as goal

pub returns-in-Ok-clause-gives : goal.returns-in-Ok-clause-gives
returns-in-Ok-clause-gives g c = λ out.
    let r = c.keep_image.ensures.gives out in
    (r.0, file_with c.in-Ok.ensures.ok (keeping_before _ _ _ _ _ _ _ _ _ _ c.in-Ok.ensures.kept.told c.in-Ok.ensures.counted r.0 r.1), r.2)

pub returns-in-Ok-clause-held : goal.returns-in-Ok-clause-held
returns-in-Ok-clause-held g c = held_before _ c.in-Ok.ensures.kept.told c.keep_image.ensures.held

pub returns-in-Err-clause-gives : goal.returns-in-Err-clause-gives
returns-in-Err-clause-gives g c = λ out. (stop_answer c.in-Err.stop, file_without c.in-Err.ensures.err, c.tell.ensures out)

pub returns-in-Err-clause-held : goal.returns-in-Err-clause-held
returns-in-Err-clause-held g c = inl c.in-Err.ensures.kept.told

pub returns-in-Ok-clause-kept : goal.returns-in-Ok-clause-kept
returns-in-Ok-clause-kept g c =
    inr (c.in-Ok.image, c.in-Ok.ensures.ok, once_before _ _ _ _ _ _ _ _ _ _ c.in-Ok.ensures.kept.told c.in-Ok.ensures.counted c.in-Ok.ensures.kept.given c.keep_image.ensures.kept)

pub returns-in-Err-clause-kept : goal.returns-in-Err-clause-kept
returns-in-Err-clause-kept g c = inl c.in-Err.ensures.kept

pub returns-in-Ok-clause-unkept : goal.returns-in-Ok-clause-unkept
returns-in-Ok-clause-unkept g c = λ zero six name. c.keep_image.ensures.unkept zero six name ∙ c.in-Ok.ensures.kept.told name

pub returns-in-Err-clause-unkept : goal.returns-in-Err-clause-unkept
returns-in-Err-clause-unkept g c = λ zero six. c.in-Err.ensures.kept.told
