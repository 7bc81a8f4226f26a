-- What is due where the guard is asked of an image and a certificate.
use Rattle.std.specs.Prelude.{◌≡◌, ℕ, List, ◌++◌, codes, decimal}
use Rattle.dae_base.specs.declared.Depths.{Depths}
use Rattle.dae_image.specs.declared.Image.{Image}
use Rattle.dae_guard.specs.Never.{NeverStuck}
use Rattle.dae_guard_walk.specs.declared.guarding.GuardAnswer.{GuardAnswer}
use Rattle.dae_guard_walk.specs.declared.guarding.GuardAnswer.TheVariants.{Yes, Depth, BadLine, NoStep, TooLong, Memory}
use Rattle.dae_guard_walk.specs.Answers.{Due}
use Rattle.dae_cli_drive.specs.Lines.{memory_line}
use Rattle.dae_cli_drive.specs.Notes.{depth_line}
use Rattle.dae_cli_drive.specs.Puts.{Answer, told}

-- a certificate has at most so many bytes
abbrev pub most_certificate : ℕ
most_certificate = 1048576

abbrev pub long_line : List ℕ
long_line = codes "refused certificate-too-long\n"

-- a rule of certificates that is broken, at a line or a start of this number
abbrev pub refused_line : List ℕ → ℕ → List ℕ
refused_line rule number = codes "refused guard-" ++ (rule ++ (decimal number ++ codes "\n"))

-- the status and the line for what the guard says
abbrev pub answer_of : GuardAnswer → Answer
answer_of Yes = told 0 (codes "guarded\n")
answer_of (Depth queue needs has) = told 4 (depth_line queue needs has)
answer_of (BadLine number) = told 2 (refused_line (codes "line ") number)
answer_of (NoStep start a e) = told 2 (refused_line (codes "step ") start)
answer_of (TooLong start) = told 2 (refused_line (codes "long ") start)
answer_of Memory = told 7 memory_line

-- what is due for an image, depths and the text of a certificate: an answer that is due; and no run
-- is stuck where it is yes
pub data DueOfGuard (image : Image) (d : Depths) (text : List ℕ) : Answer → Type 0 where
  due_guard : (answer : GuardAnswer) → Due image d text answer
      → (answer ≡ Yes → NeverStuck image d) → DueOfGuard image d text (answer_of answer)
