use Rattle.std.specs.List.{AllByRecursion}
use Rattle.dae_types_typed.specs.declared.files.FileParts.{FileParts}
use Rattle.dae_unit.specs.Couples.{AreKnown, IsNotedOther}
use Rattle.dae_unit.proofs.across.note_differing.Given as goal

abbrev pub invariant-loop-task : goal.invariant-loop-task
invariant-loop-task l =
    (f g : FileParts) → AreKnown f g l.initial.known.entries → AllByRecursion (IsNotedOther f g) l.tasks → AreKnown f g l.known.entries
