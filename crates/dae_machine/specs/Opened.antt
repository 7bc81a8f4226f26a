-- The state in which a machine begins.
use Rattle.std.specs.Prelude.{◌-◌, ◌+◌, not, ◌==◌, [], ◌++◌, length, replicate}
use Rattle.dae_base.specs.declared.Depths.{Depths}
use Rattle.dae_image.specs.declared.Image.{Image}
use Rattle.dae_core.specs.Queues.{empty_queues}
pub use Rattle.dae_core.specs.Held.{fresh}
use Rattle.dae_machine.specs.Machine.{Setup, State}

abbrev pub setup_of : Image → Depths → Setup
setup_of image depths = record { code_a = image.code_a; code_e = image.code_e; memory = image.memory; copies = not (image.budget.cq == 0); depths = depths }

abbrev pub opened : Image → State
opened image = record {
  a = fresh image.entry_a image.private_a;
  e = fresh image.entry_e image.private_e;
  queues = empty_queues;
  memory = replicate 16 0 ++ (image.content ++ replicate (image.memory - (16 + length image.content)) 0);
  printed = [];
  steps = 0;
}
