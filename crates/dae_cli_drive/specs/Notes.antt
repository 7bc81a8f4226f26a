-- The lines that a job notes.
use Rattle.std.specs.Prelude.{ℕ, ◌/◌, ◌%◌, false, List, [], ◌∷◌, ◌++◌, take, drop, Option, Some, None, codes, decimal}
use Rattle.std.specs.List.{flat_map}
use Rattle.std.specs.Fmt.{digit_glyph}
use Rattle.dae_base.specs.declared.Depths.{Depths}
use Rattle.dae_base.specs.declared.Side.TheVariants.{A, E}
use Rattle.dae_base.specs.declared.Queue.{Queue}
use Rattle.dae_base.specs.declared.Queue.TheVariants.{Ld, Al, Sa, Sd, Ab, Eb, Cq}
use Rattle.dae_base.specs.Texts.{decimal_text}
use Rattle.dae_base.specs.declared.Signedness.TheVariants as signedness
use Rattle.dae_encode.specs.declared.Fault.{Fault}
use Rattle.dae_encode.specs.declared.Fault.TheVariants.{BadPc, Illegal, Private, Shared, Call}
use Rattle.dae_core.specs.declared.CoreAnswer.{CoreAnswer}
use Rattle.dae_core.specs.declared.CoreAnswer.TheVariants.{Did, Waits, Halted, Faulted}
use Rattle.dae_image.specs.declared.fault.ImageError.{ImageError}
use Rattle.dae_image.specs.declared.fault.ImageError.TheVariants as errors
use Rattle.dae_image.specs.FieldNames.{field_name}
use Rattle.dae_machine.specs.declared.End.TheVariants.{Ended, Trapped}
use Rattle.dae_machine.specs.Answers.{answer}
use Rattle.dae_machine.specs.Machine.{Setup, State}
use Rattle.dae_cli_drive.specs.declared.driving.Driven.{Driven}
use Rattle.dae_cli_drive.specs.declared.driving.Driven.TheVariants.{Final, Stuck, Spent, SinkFailed}
use Rattle.dae_cli_options.specs.declared.options.Shown.{Shown}
use Rattle.dae_cli_drive.specs.Lines.{memory_line}
use Rattle.dae_cli_drive.specs.Puts.{Put, Note}

abbrev pub budget_line : Depths → List ℕ
budget_line d =
    (codes "budget ld " ++ (decimal d.ld ++ (codes " al " ++ decimal d.al)))
    ++ ((codes " sa " ++ (decimal d.sa ++ (codes " sd " ++ decimal d.sd)))
    ++ (codes " ab " ++ (decimal d.ab ++ (codes " eb " ++ (decimal d.eb ++ (codes " cq " ++ (decimal d.cq ++ codes "\n")))))))

abbrev pub queue_name : Queue → List ℕ
queue_name Ld = codes "ld"
queue_name Al = codes "al"
queue_name Sa = codes "sa"
queue_name Sd = codes "sd"
queue_name Ab = codes "ab"
queue_name Eb = codes "eb"
queue_name Cq = codes "cq"

-- a queue that is less deep than the program needs
abbrev pub depth_line : Queue → ℕ → ℕ → List ℕ
depth_line queue needs has = codes "depth " ++ (queue_name queue ++ (codes " needs " ++ (decimal needs ++ (codes " has " ++ (decimal has ++ codes "\n")))))

-- why bytes are no image
abbrev pub image_line : ImageError → List ℕ
image_line (errors.Short length) = codes "image short " ++ (decimal length ++ codes "\n")
image_line (errors.BadField field offset) = codes "image field " ++ (field_name field ++ (codes " " ++ (decimal offset ++ codes "\n")))
image_line (errors.Trailing offset) = codes "image trailing " ++ (decimal offset ++ codes "\n")
image_line errors.Memory = memory_line

-- ---- after a run

-- a status, as a signed number
abbrev pub ended_line : ℕ → List ℕ
ended_line status = codes "ended " ++ (decimal_text status signedness.Signed ++ codes "\n")

abbrev pub trapped_line : ℕ → List ℕ
trapped_line code = codes "trapped " ++ (decimal_text code signedness.Unsigned ++ codes "\n")

abbrev pub running_line : List ℕ
running_line = codes "running\n"

abbrev pub fault_name : Fault → List ℕ
fault_name BadPc = codes "badpc"
fault_name Illegal = codes "illegal"
fault_name Private = codes "private"
fault_name Shared = codes "shared"
fault_name Call = codes "call"

-- what keeps a processor from a step
abbrev pub why_text : CoreAnswer → List ℕ
why_text (Did piece) = []
why_text (Waits queue) = codes "waits " ++ queue_name queue
why_text Halted = codes "halted"
why_text (Faulted fault) = codes "fault " ++ fault_name fault

abbrev pub stuck_line : CoreAnswer → CoreAnswer → List ℕ
stuck_line a e = codes "stuck A " ++ (why_text a ++ (codes ", E " ++ (why_text e ++ codes "\n")))

-- how a machine came out
abbrev pub outcome_line : Driven → Setup → State → List ℕ
outcome_line (Final (Ended status)) setup s = ended_line status
outcome_line (Final (Trapped code)) setup s = trapped_line code
outcome_line Stuck setup s = stuck_line (answer setup s A) (answer setup s E)
outcome_line Spent setup s = running_line
outcome_line SinkFailed setup s = []

abbrev pub steps_line : ℕ → List ℕ
steps_line steps = codes "steps " ++ (decimal steps ++ codes "\n")

-- a blank and two hexadecimal digits
abbrev pub shown_byte : ℕ → List ℕ
shown_byte b = 32 ∷ (digit_glyph false (b / 16) ∷ (digit_glyph false (b % 16) ∷ []))

-- the bytes of memory that are to be shown; those past its end are left out
abbrev pub shown_line : Shown → List ℕ → List ℕ
shown_line s memory = codes "memory " ++ (decimal s.address ++ (codes ":" ++ (flat_map shown_byte (take s.count (drop s.address memory)) ++ codes "\n")))

abbrev pub show_puts : Option Shown → List ℕ → List Put
show_puts None memory = []
show_puts (Some s) memory = Note (shown_line s memory) ∷ []

-- what is noted after a run, each line in a put of its own
abbrev pub end_puts : Driven → Setup → State → Option Shown → List Put
end_puts how setup s show = Note (outcome_line how setup s) ∷ (Note (steps_line s.steps) ∷ show_puts show s.memory)
