use Rattle.std.proofs.Common.{◌≡◌, refl, ap, rules}
use Rattle.dae_base.specs.declared.Depths.{Depths}
use Rattle.dae_cli_words.specs.declared.command.Command.TheVariants as cmd
use Rattle.dae_cli_words.specs.Asked.{Check, Debug, Guard}
use Rattle.dae_cli_words.proofs.Asking.{ask}
use Rattle.dae_cli_words.proofs.job.job_of.Goals as goal

pub returns-in-Run-clause-job : goal.returns-in-Run-clause-job
returns-in-Run-clause-job c =
    let is : c.args.command ≡ cmd.Run = search rules in
    ask _ cmd.Run _ _ _ c.in_ok-chosen.chosen is c.in_ok-chosen.ensures refl

pub returns-in_ok-functions-in-Big-clause-job : goal.returns-in_ok-functions-in-Big-clause-job
returns-in_ok-functions-in-Big-clause-job c =
    let is : c.args.command ≡ cmd.Big = search rules in
    ask _ cmd.Big _ _ _ c.in_ok-chosen.chosen is c.in_ok-chosen.ensures (c.in_ok-only_file-in-Big.field-0.now, c.in_ok-functions-in-Big.field-0, c.in_ok-only_file-in-Big.ensures, c.in_ok-functions-in-Big.ensures.has, refl)

pub returns-in_ok-kept_name-in-Compile-clause-job : goal.returns-in_ok-kept_name-in-Compile-clause-job
returns-in_ok-kept_name-in-Compile-clause-job c =
    let is : c.args.command ≡ cmd.Compile = search rules in
    ask _ cmd.Compile _ _ _ c.in_ok-chosen.chosen is c.in_ok-chosen.ensures (c.in_ok-kept_name-in-Compile.field-0.now, c.in_ok-kept_name-in-Compile.ensures, refl)

pub returns-in-Report-clause-job : goal.returns-in-Report-clause-job
returns-in-Report-clause-job c =
    let is : c.args.command ≡ cmd.Report = search rules in
    ask _ cmd.Report _ _ _ c.in_ok-chosen.chosen is c.in_ok-chosen.ensures refl

pub returns-in_ok-only_file-in-Exec-clause-job : goal.returns-in_ok-only_file-in-Exec-clause-job
returns-in_ok-only_file-in-Exec-clause-job c =
    let is : c.args.command ≡ cmd.Exec = search rules in
    ask _ cmd.Exec _ _ _ c.in_ok-chosen.chosen is c.in_ok-chosen.ensures (c.in_ok-only_file-in-Exec.field-0.now, c.in_ok-only_file-in-Exec.ensures, refl)

pub returns-in_ok-only_file-in-Trace-clause-job : goal.returns-in_ok-only_file-in-Trace-clause-job
returns-in_ok-only_file-in-Trace-clause-job c =
    let is : c.args.command ≡ cmd.Trace = search rules in
    ask _ cmd.Trace _ _ _ c.in_ok-chosen.chosen is c.in_ok-chosen.ensures (c.in_ok-only_file-in-Trace.field-0.now, c.in_ok-only_file-in-Trace.ensures, refl)

pub returns-in_ok-only_file-in-Dis-clause-job : goal.returns-in_ok-only_file-in-Dis-clause-job
returns-in_ok-only_file-in-Dis-clause-job c =
    let is : c.args.command ≡ cmd.Dis = search rules in
    ask _ cmd.Dis _ _ _ c.in_ok-chosen.chosen is c.in_ok-chosen.ensures (c.in_ok-only_file-in-Dis.field-0.now, c.in_ok-only_file-in-Dis.ensures, refl)

pub returns-in_ok-image-in-Time-clause-job : goal.returns-in_ok-image-in-Time-clause-job
returns-in_ok-image-in-Time-clause-job c =
    let is : c.args.command ≡ cmd.Time = search rules in
    ask _ cmd.Time _ _ _ c.in_ok-chosen.chosen is c.in_ok-chosen.ensures (c.in_ok-image-in-Time.image.now, c.in_ok-image-in-Time.ensures, refl)

pub returns-in_ok-image-in-Check-clause-job : goal.returns-in_ok-image-in-Check-clause-job
returns-in_ok-image-in-Check-clause-job c =
    let is : c.args.command ≡ cmd.Check = search rules in
    ask _ cmd.Check _ _ _ c.in_ok-chosen.chosen is c.in_ok-chosen.ensures (c.in_ok-image-in-Check.image.now, c.in_ok-image-in-Check.trace.now, c.in_ok-image-in-Check.ensures, ap (λ (d : Depths). Check d c.in_ok-image-in-Check.image.now c.in_ok-image-in-Check.trace.now) c.depths_in.ensures)

pub returns-in_ok-image-in-Debug-clause-job : goal.returns-in_ok-image-in-Debug-clause-job
returns-in_ok-image-in-Debug-clause-job c =
    let is : c.args.command ≡ cmd.Debug = search rules in
    ask _ cmd.Debug _ _ _ c.in_ok-chosen.chosen is c.in_ok-chosen.ensures (c.in_ok-image-in-Debug.image.now, c.in_ok-image-in-Debug.script.now, c.in_ok-image-in-Debug.ensures, ap (λ (d : Depths). Debug d c.in_ok-image-in-Debug.image.now c.in_ok-image-in-Debug.script.now) c.depths_in-in-Debug.ensures)

pub returns-in_ok-image-in-Guard-clause-job : goal.returns-in_ok-image-in-Guard-clause-job
returns-in_ok-image-in-Guard-clause-job c =
    let is : c.args.command ≡ cmd.Guard = search rules in
    ask _ cmd.Guard _ _ _ c.in_ok-chosen.chosen is c.in_ok-chosen.ensures (c.in_ok-image-in-Guard.image.now, c.in_ok-image-in-Guard.certificate.now, c.in_ok-image-in-Guard.ensures, ap (λ (d : Depths). Guard d c.in_ok-image-in-Guard.image.now c.in_ok-image-in-Guard.certificate.now) c.depths_in-in-Guard.ensures)

pub returns-in_ok-only_file-in-Asm-clause-job : goal.returns-in_ok-only_file-in-Asm-clause-job
returns-in_ok-only_file-in-Asm-clause-job c =
    let is : c.args.command ≡ cmd.Asm = search rules in
    ask _ cmd.Asm _ _ _ c.in_ok-chosen.chosen is c.in_ok-chosen.ensures (c.in_ok-kept_name-in-Asm.field-0.now, c.in_ok-only_file-in-Asm.field-0.now, c.in_ok-kept_name-in-Asm.ensures, c.in_ok-only_file-in-Asm.ensures, refl)
