-- The trace of a run, and what a list of bytes is that is none.
use Rattle.std.specs.Prelude.{◌≡◌, ◌≢◌, ◌⊎◌, ℕ, ◌≤◌, suc, true, List, [], ◌∷◌, ◌++◌, length, Option, Some, None, is_some}
use Rattle.std.specs.List.{AllByRecursion, concat}
use Rattle.dae_base.specs.Budgets.{depth, first_below, Reaches}
use Rattle.dae_base.specs.declared.Depths.{Depths}
use Rattle.dae_image.specs.declared.Image.{Image}
use Rattle.dae_machine.specs.declared.Pick.{Pick}
use Rattle.dae_machine.specs.Machine.{Setup, State, IsCounted, IsFinal, Runs, step}
use Rattle.dae_machine.specs.Opened.{opened, setup_of}
use Rattle.dae_machine.specs.Rests.{end_of}
use Rattle.dae_trace.specs.declared.TraceAnswer.{TraceAnswer}
use Rattle.dae_trace.specs.declared.TraceAnswer.TheVariants.{Run, NotARun, BadLine, Depth, Memory}
use Rattle.dae_trace.specs.Lines.{Names, line}

-- ---- the lines of a run

abbrev pub lines_on : Option State → (State → List (List ℕ)) → List (List ℕ)
lines_on None later = []
lines_on (Some t) later = later t

-- the lines of these picks from a state on
abbrev pub lines : Setup → State → List Pick → List (List ℕ)
lines setup s [] = []
lines setup s (p ∷ ps) = line s p ∷ lines_on (step setup s p) (λ t. lines setup t ps)

-- the bytes are the lines of a run to this state
pub record IsTrace (setup : Setup) (s : State) (bytes : List ℕ) (t : State) : Type 0 where
  pub picks : List Pick
  pub runs : Runs setup s picks t
  pub bytes_are : bytes ≡ concat (lines setup s picks)

-- ---- the first line that is none

-- up to the first line feed, with that, or all where there is none; and what comes behind it
pub record IsFirstLine (bytes text behind : List ℕ) : Type 0 where
  pub bytes_are : bytes ≡ text ++ behind
  pub some : text ≢ []
  pub front : List ℕ
  pub no_feed : AllByRecursion (λ b. b ≢ 10) front
  pub ends : (text ≡ front ++ 10 ∷ []) ⊎ ((text ≡ front) × (behind ≡ []))

-- the first lines are those of a run, and the one of this number, counted from 1, isn't the line of an enabled pick
pub record FailsAt (setup : Setup) (s : State) (bytes : List ℕ) (number : ℕ) (text : List ℕ) : Type 0 where
  pub picks : List Pick
  pub state : State
  pub runs : Runs setup s picks state
  pub count : number ≡ suc (length picks)
  pub rest : List ℕ
  pub bytes_are : bytes ≡ concat (lines setup s picks) ++ rest
  pub behind : List ℕ
  pub first : IsFirstLine rest text behind
  pub none : (p : Pick) → is_some (step setup state p) ≡ true → line state p ≢ text

-- the numbers of slots are in order, and none is above the number of steps
pub record Numbered (s : State) : Type 0 where
  pub counts : IsCounted s
  pub ld : s.queues.ld.reserved ≤ s.steps
  pub al : s.queues.al.reserved ≤ s.steps

-- ---- of an image's machine, opened with queues of these depths

-- the bytes are the lines of its run to this state
abbrev pub IsTraceOf : Image → Depths → List ℕ → State → Type 0
IsTraceOf image d bytes t = IsTrace (setup_of image d) (opened image) bytes t

-- the line of this number is the first that isn't that of an enabled pick
abbrev pub FailsOf : Image → Depths → List ℕ → ℕ → List ℕ → Type 0
FailsOf image d bytes number text = FailsAt (setup_of image d) (opened image) bytes number text

-- ---- what the answers tell

-- of a run from a state
abbrev pub Follows : TraceAnswer → Setup → State → List ℕ → Type 0
Follows (Run (Some end)) setup s bytes =
    (t : State) × IsTrace setup s bytes t × IsFinal setup t × (end_of t.e.halt ≡ Some end)
Follows (Run None) setup s bytes =
    (t : State) × IsTrace setup s bytes t × ¬ (IsFinal setup t)
Follows (NotARun n) setup s bytes =
    (text : List ℕ) × FailsAt setup s bytes n text × ((p : Pick) × Names text p)
Follows (BadLine n) setup s bytes =
    (text : List ℕ) × FailsAt setup s bytes n text × ((p : Pick) → ¬ (Names text p))
Follows (Depth queue needs has) setup s bytes = ⊥
Follows Memory setup s bytes = ⊥

-- of an image, with queues of these depths
abbrev pub Checks : TraceAnswer → Image → Depths → List ℕ → Type 0
Checks (Depth queue needs has) image d bytes =
    (first_below d image.budget ≡ Some queue) × (needs ≡ depth queue image.budget)
    × (has ≡ depth queue d)
Checks Memory image d bytes = Reaches d image.budget
Checks (Run end) image d bytes =
    Reaches d image.budget × Follows (Run end) (setup_of image d) (opened image) bytes
Checks (NotARun n) image d bytes =
    Reaches d image.budget × Follows (NotARun n) (setup_of image d) (opened image) bytes
Checks (BadLine n) image d bytes =
    Reaches d image.budget × Follows (BadLine n) (setup_of image d) (opened image) bytes
