-- A pair of codes that can't get stuck.
use Rattle.std.specs.Prelude.{◌≡◌, List, ℕ, length}
use Rattle.dae_base.specs.declared.Depths.{Depths}
use Rattle.dae_base.specs.Words.{AreBytes}
use Rattle.dae_image.specs.declared.Image.{Image}
use Rattle.dae_machine.specs.declared.Pick.{Pick}
use Rattle.dae_machine.specs.Machine.{State, Runs, IsStuck}
use Rattle.dae_machine.specs.Opened.{opened, setup_of}

-- whatever bytes common memory holds, no run of the machine with queues of these depths leads to a
-- stuck state
abbrev pub NeverStuck : Image → Depths → Type 0
NeverStuck image depths =
    (memory : List ℕ) → length memory ≡ image.memory → AreBytes memory
    → (ps : List Pick) (s : State)
    → Runs (setup_of image depths) (record (opened image) { memory = memory }) ps s
    → ¬ (IsStuck (setup_of image depths) s)
