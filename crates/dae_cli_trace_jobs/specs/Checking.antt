-- What is due where bytes are checked as a trace of an image.
use Rattle.std.specs.Prelude.{ℕ, List, ◌++◌, Some, None, codes, decimal}
use Rattle.dae_base.specs.declared.Depths.{Depths}
use Rattle.dae_image.specs.declared.Image.{Image}
use Rattle.dae_machine.specs.declared.End.TheVariants.{Ended, Trapped}
use Rattle.dae_trace.specs.declared.TraceAnswer.{TraceAnswer}
use Rattle.dae_trace.specs.declared.TraceAnswer.TheVariants.{Run, NotARun, BadLine, Depth, Memory}
use Rattle.dae_trace.specs.Traces.{Checks}
use Rattle.dae_cli_drive.specs.Images.{BehindBudget}
use Rattle.dae_cli_drive.specs.Lines.{memory_line}
use Rattle.dae_cli_drive.specs.Notes.{depth_line, ended_line, running_line, trapped_line}
use Rattle.dae_cli_drive.specs.Puts.{Answer, told}

-- a trace has at most so many bytes
abbrev pub most_trace : ℕ
most_trace = 268435456

abbrev pub long_line : List ℕ
long_line = codes "refused trace-too-long\n"

-- the first line that isn't that of an enabled pick, by its number
abbrev pub not_a_run_line : ℕ → List ℕ
not_a_run_line number = codes "not-a-run " ++ (decimal number ++ codes "\n")

-- the status and the line for what bytes are as a trace
abbrev pub answer_of : TraceAnswer → Answer
answer_of (Run (Some (Ended status))) = told 0 (ended_line status)
answer_of (Run (Some (Trapped code))) = told 1 (trapped_line code)
answer_of (Run None) = told 3 running_line
answer_of (NotARun number) = told 10 (not_a_run_line number)
answer_of (BadLine number) = told 10 (not_a_run_line number)
answer_of (Depth queue needs has) = told 4 (depth_line queue needs has)
answer_of Memory = told 7 memory_line

-- what is due behind the line with the budget
pub data DueOfTrace (image : Image) (d : Depths) (bytes : List ℕ) : Answer → Type 0 where
  due_checked : (answer : TraceAnswer) → Checks answer image d bytes
      → DueOfTrace image d bytes (answer_of answer)

-- what is due for bytes as a trace of an image, with queues of these depths
abbrev pub DueOfChecking : Image → Depths → List ℕ → Answer → Type 0
DueOfChecking image d bytes = BehindBudget image (DueOfTrace image d bytes)
