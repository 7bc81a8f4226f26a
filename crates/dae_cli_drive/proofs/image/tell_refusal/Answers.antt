use Rattle.std.proofs.Common.{rules, ◌≡◌, ap, subst}
use Rattle.dae_base.specs.Budgets.{depth}
use Rattle.dae_machine.specs.declared.OpenError.{OpenError}
use Rattle.dae_machine.specs.Answers.{Refuses}
use Rattle.dae_cli_drive.specs.Notes.{depth_line}
use Rattle.dae_cli_drive.specs.Images.{due_depth, due_memory_for_machine}
use Rattle.dae_cli_drive.specs.Puts.{told}
use Rattle.dae_cli_drive.proofs.Puts.{gives_same}
use Rattle.dae_cli_drive.proofs.image.tell_refusal.Goals as goal

pub returns-in-DepthBelow : goal.returns-in-DepthBelow
returns-in-DepthBelow g c = λ image d refuses out.
    let r = subst (λ (e : OpenError). Refuses e image.budget d) c.in-DepthBelow.is refuses in
    let line : c.as_slice.result.now ≡ depth_line c.in-DepthBelow.queue (depth c.in-DepthBelow.queue image.budget) (depth c.in-DepthBelow.queue d) = rw (← r.1, ← r.2) (search rules) in
    (_, due_depth c.in-DepthBelow.queue r.0, gives_same (ap (told 4) line) (c.noted.ensures out))

pub returns-in-Memory : goal.returns-in-Memory
returns-in-Memory g c = λ image d refuses out.
    (_, due_memory_for_machine (subst (λ (e : OpenError). Refuses e image.budget d) c.in-Memory.is refuses), c.tell.ensures out)
