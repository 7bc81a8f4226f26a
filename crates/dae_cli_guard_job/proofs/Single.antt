-- For an image and the text of a certificate at most one answer is due, but for want of memory.
use Rattle.std.proofs.Common.{◌≡◌, ℕ, List, ap}
use Rattle.dae_base.specs.declared.Depths.{Depths}
use Rattle.dae_image.specs.declared.Image.{Image}
use Rattle.dae_guard_walk.specs.declared.guarding.GuardAnswer.{GuardAnswer}
use Rattle.dae_guard_walk.proofs.LawsOfAnswers.{one_due}
use Rattle.dae_cli_drive.specs.Images.{IsSingle}
use Rattle.dae_cli_guard_job.specs.Guarding.{DueOfGuard, answer_of, due_guard}

pub single_guarding : (image : Image) (d : Depths) (text : List ℕ) → IsSingle (DueOfGuard image d text)
single_guarding image d text a b (due_guard x p g) (due_guard y q h) n m =
    ap answer_of (one_due image d text x y p q
    (λ e. n (ap (λ (z : GuardAnswer). let r = answer_of z in r.status) e))
    (λ e. m (ap (λ (z : GuardAnswer). let r = answer_of z in r.status) e)))
