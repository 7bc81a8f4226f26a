use Rattle.std.proofs.Common.{take}
use Rattle.std.specs.List.{All}
use Rattle.dae_types_typed.specs.Sound.{IsSound}
use Rattle.dae_unit_join.proofs.joining.see_sound.Given as goal

abbrev pub invariant-loop-file : goal.invariant-loop-file
invariant-loop-file l = All IsSound (take l.file-index l.files)
